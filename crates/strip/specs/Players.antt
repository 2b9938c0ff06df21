-- Where a player stands.
use Rattle.std.specs.Prelude.{take}
use Rattle.strip.specs.Positions.{Position}
use Rattle.strip.specs.declared.player.Player.{Player}

-- the strip that it plays, the place of the next slot, and the work of each row
abbrev pub position_of : Player → Position
position_of p =
    record {
      slots = p.slots.now;
      first = p.first;
      last = p.last;
      place = p.place;
      rows = take p.count p.rows;
    }
