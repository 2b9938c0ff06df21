-- Which numbers make a list, and the first refusal of those that do not.
use Rattle.std.specs.List.{list_any}
use Rattle.std.specs.Option.{option_map_or}
use Rattle.std.specs.Prelude.{ℕ, ◌+◌, ◌-◌, Bool, false, not, ◌&&◌, if◌then◌else◌, List, [], ◌∷◌, length, slice_index_or, slice_get, take, Some, None, Option, ◌==◌, nat_le, nat_lt}
use Rattle.readings.specs.declared.reading.Proposal.{Proposal}
use Rattle.readings.specs.declared.reading.Reading.{Reading}
use Rattle.readings.specs.Refusals.{Content}
use Rattle.readings.specs.Firsts.{first_of}

-- a row with all numbers 0
abbrev pub no_proposal : Proposal
no_proposal = record { id = 0; work = 0; validity = 0 }

-- the reading of the numbers given
abbrev pub kept : Proposal → Reading
kept p = record { id = p.id; work = p.work; validity = p.validity }

-- work length from 1 to 255, validity from 2 to 4,095 and at least the work length
abbrev pub is_in_range : Proposal → Bool
is_in_range p =
    nat_le 1 p.work && (nat_le p.work 255
    && (nat_le 2 p.validity && (nat_le p.validity 4095 && nat_le p.work p.validity)))

-- one of these rows has the id
abbrev pub has_id : ℕ → List Proposal → Bool
has_id i ps = list_any (λ p. p.id == i) ps

-- an id from 1 to 65,535 that no row above has
abbrev pub is_new_id : ℕ → List Proposal → Bool
is_new_id i above = nat_le 1 i && (nat_le i 65535 && not (has_id i above))

-- a smaller validity than that of the last row above, if there is one
abbrev pub is_out_of_order : List Proposal → Proposal → Bool
is_out_of_order above p =
    option_map_or (λ (q : Proposal). nat_lt p.validity q.validity)
    (slice_get above (length above - 1)) false

-- the first refusal of a row below these
abbrev pub row_refusal : List Proposal → Proposal → Option Content
row_refusal above p =
    if not (is_in_range p) then Some (2, (length above + 1) ∷ [])
    else if not (is_new_id p.id above) then Some (3, (length above + 1) ∷ [])
    else if is_out_of_order above p then Some (4, (length above + 1) ∷ [])
    else None

-- that of row k + 1 of these
abbrev pub refusal_at : List Proposal → ℕ → Option Content
refusal_at ps k = row_refusal (take k ps) (slice_index_or ps k no_proposal)

-- the first refusal of the rows, row by row
abbrev pub rows_refusal : List Proposal → Option Content
rows_refusal ps = first_of (refusal_at ps) 0 (length ps)

-- a list has 1 to 16 rows
abbrev pub is_list_length : ℕ → Bool
is_list_length n = nat_le 1 n && nat_le n 16

-- why no list is made of these numbers: their count first, then row by row
abbrev pub list_refusal : List Proposal → Option Content
list_refusal ps = if is_list_length (length ps) then rows_refusal ps else Some (1, [])
