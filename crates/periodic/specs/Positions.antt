-- The position of a periodic policy: the phases of its rows.
use Rattle.std.specs.Prelude.{List, take}
use Rattle.periodic.specs.declared.phase.Phase.{Phase}
use Rattle.periodic.specs.declared.periodic.Periodic.{Periodic}

-- the phases, first to last
abbrev pub phases_of : Periodic → List Phase
phases_of p = take p.count p.phases
