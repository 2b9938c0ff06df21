-- Books whose rows all come on are fresh.
use Rattle.std.proofs.Common.{◌≡◌, ℕ, ◌<◌, ◌≤◌, List, map, length, get_or, arith}
use Rattle.std.proofs.lemmas.List.{get_or-map, length-map}
use Rattle.std.proofs.lemmas.List.Elements.{All-from_get_or, All-map}
use Rattle.readings.specs.declared.reading.Reading.{Reading}
use Rattle.readings.specs.Ranges.{WellMade, blank}
use Rattle.books.specs.Fresh.{Fresh}
use Rattle.books.specs.Rows.{blank_row, come_on, job_age}
use Rattle.books.specs.Valid.{Valid}

-- a row that comes on
pub began_row : (rs : List Reading) (k : ℕ) → k < length rs → get_or (map come_on rs) k blank_row ≡ come_on (get_or rs k blank)
began_row rs k h = get_or-map come_on rs k blank blank_row h

pub began_fresh : (rs : List Reading) → WellMade rs → Fresh (map come_on rs)
began_fresh rs w =
    let l = length-map rs come_on in
    record {
      few = let f = w.few in omega arith;
      validities = All-map (λ r. r.reading.validity ≤ 4095) come_on rs
          (All-from_get_or (λ d. d.validity ≤ 4095) rs blank (λ k h. (w.validities k blank h).1));
      ages = All-map Valid come_on rs (λ k d h. omega arith);
      jobs = All-map (λ r. job_age r.job ≤ r.age) come_on rs (λ k d h. omega arith);
    }
