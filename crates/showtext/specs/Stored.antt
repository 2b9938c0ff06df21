-- What is stored of a strip, and what is told of it.
use Rattle.std.specs.Prelude.{◌≡◌, ℕ, ◌/◌, List, ◌++◌, codes, decimal, length, string_bytes, Ok, Err, Result}
use Rattle.readings.specs.Refusals.{Content, content}
use Rattle.readings.specs.declared.refusal.Refusal.{Refusal}
use Rattle.strip.specs.Strips.{Strip}
use Rattle.showfile.specs.Spelling.{spelling}
use Rattle.showtext.specs.Told.{strip_lines}
use Rattle.showtext.specs.declared.made.Stored.{Stored}

-- how many blocks of 512 bytes the show file of a strip has
abbrev pub block_count : Strip → ℕ
block_count s = length (spelling s) / 512

-- the lines of a strip, and how many blocks its file has
abbrev pub stored_lines : Strip → List ℕ
stored_lines s = strip_lines s ++ codes "blocks " ++ decimal (block_count s) ++ codes "\n"

-- the show file of this strip, and what is told of it
pub record Stores (s : Strip) (it : Stored) : Type 0 where
  pub file : it.file.items ≡ spelling s
  pub told : string_bytes it.told ≡ stored_lines s

-- an answer to a script that makes this strip, or is refused so
abbrev pub StoresAs : (scripted : Result Strip Content) → (answer : Result Stored Refusal) → Type 0
StoresAs (Ok s) (Ok it) = Stores s it
StoresAs (Err said) (Err refusal) = content refusal ≡ said
StoresAs (Ok s) (Err refusal) = ⊥
StoresAs (Err said) (Ok it) = ⊥
