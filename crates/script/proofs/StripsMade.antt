-- The strips of plans, as the code makes them.
use Rattle.std.proofs.Common.{◌≡◌, ℕ, ◌+◌, ◌-◌, ◌≤◌, leb, List, [], ◌∷◌, length, map, take, set, Some, None, Option, Ok, Err, inl, inr, refl, subst, ◌∙◌, arith}
use Rattle.std.proofs.lemmas.Bool.{cases_Bool}
use Rattle.std.proofs.lemmas.List.{length-set}
use Rattle.std.proofs.lemmas.List.Elements.{All-cons, All-nil}
use Rattle.readings.specs.declared.reading.Reading.{Reading}
use Rattle.books.specs.Rows.{come_on}
use Rattle.deferral.specs.Laying.{Laying, lay}
use Rattle.strip.specs.Closings.{loop_of}
use Rattle.strip.specs.LaidIn.{lay_within}
use Rattle.strip.specs.Meanings.{strip_meaning}
use Rattle.strip.specs.Strips.{Strip, closed_strip, laid_strip, start_of, with_loop}
use Rattle.strip.specs.WellClosed.{WellClosed}
use Rattle.walk.specs.Walks.{Walks, granted}
use Rattle.script.specs.Strips.{LoopWalked, empty_strip}

-- a memory whose first two bytes are set to 0
module _ (m : List ℕ) (room : 2 ≤ length m) where
  two_empty : take 2 (set (set m 0 0) 1 0) ≡ 0 ∷ 0 ∷ []
  two_empty = go m room where
    go : (m : List ℕ) → 2 ≤ length m → take 2 (set (set m 0 0) 1 0) ≡ 0 ∷ 0 ∷ []
    go [] h = absurd (omega arith)
    go (a ∷ []) h = absurd (omega arith)
    go (a ∷ b ∷ m) h = refl

  -- they make a closed strip
  pub empty_closes : (rows : ℕ) → WellClosed rows (set (set m 0 0) 1 0) 2 1 1
  empty_closes rows =
      record {
        some = omega arith;
        few = omega arith;
        room = simp length-set room;
        from_one = omega arith;
        ordered = omega arith;
        inside = omega arith;
        named = rw two_empty (All-cons (λ row. row ≤ rows) 0 (0 ∷ []) (omega arith) (All-cons (λ row. row ≤ rows) 0 [] (omega arith) (All-nil (λ row. row ≤ rows))));
      }

  -- which is the empty strip of its list
  pub is_empty : (s : Strip) (given : List Reading) → s.rows ≡ given → s.slots ≡ take 2 (set (set m 0 0) 1 0) → s.first ≡ 1
      → s.last ≡ 1 → s ≡ empty_strip given
  is_empty s given e f g h = let slots : s.slots ≡ 0 ∷ 0 ∷ [] = f ∙ two_empty in rw (e, slots, g, h) refl

-- more slots than a strip may have are refused, whether or not the memory has room
pub laid_within : (room : ℕ) (rs : List Reading) (n : ℕ) → room ≡ 32767 → lay_within room rs n ≡ lay rs n
laid_within room rs n e =
    rw e (elim (cases_Bool (leb n 32767)) [
      | inl fits ↦ rw fits refl
      | inr over ↦ elim (cases_Bool (leb 1 n)) [ inl some ↦ rw (over, some) refl | inr none ↦ rw (over, none) refl ]
    ])

-- what is laid and does not close
pub not_closed : (rs given : List Reading) (n : ℕ) (laid : List ℕ × ℕ) → lay given n ≡ Ok laid → rs ≡ given
    → loop_of laid.0 laid.1 (map come_on rs) ≡ None → laid_strip given n ≡ Err (9, [])
not_closed rs given n laid e f none = rw e (rw (rw f at none) refl)

looped_for : (rows : List Reading) (slots : List ℕ) (loop : Option (ℕ × ℕ)) (s : Strip) → with_loop rows slots loop ≡ Ok s → s.rows ≡ rows
looped_for rows slots (Some loop) s e = cc
looped_for rows slots None s e = cc

closed_for : (rows : List Reading) (laid : Laying) (s : Strip) → closed_strip rows laid ≡ Ok s → s.rows ≡ rows
closed_for rows (Ok laid) s e = looped_for rows laid.0 (loop_of laid.0 laid.1 (map come_on rows)) s e
closed_for rows (Err refusal) s e = cc

-- a strip that is laid for a list has its rows
laid_for : (rows : List Reading) (n : ℕ) (s : Strip) → laid_strip rows n ≡ Ok s → s.rows ≡ rows
laid_for rows n s e = closed_for rows (lay rows n) s e

-- so the walk with the books of that list grants it
pub walked_for : (rows : List Reading) (n : ℕ) (s : Strip) → laid_strip rows n ≡ Ok s → LoopWalked s
    → Walks strip_meaning (start_of s) (map come_on rows) (granted s.first (s.last + 1 - s.first))
walked_for rows n s e =
    subst (λ (xs : List Reading). Walks strip_meaning (start_of s) (map come_on xs) (granted s.first (s.last + 1 - s.first))) (laid_for rows n s e)
