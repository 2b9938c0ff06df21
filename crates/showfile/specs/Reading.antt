-- Reading a show file: the strip that it tells, or its first fault.
use Rattle.std.specs.Option.{option_map_or, option_or}
use Rattle.std.specs.Prelude.{ℕ, ◌+◌, Bool, if◌then◌else◌, List, [], ◌∷◌, length, Some, None, Option, Ok, Err, Result}
use Rattle.readings.specs.Proposals.{list_refusal}
use Rattle.readings.specs.Refusals.{Content}
use Rattle.strip.specs.Strips.{Strip}
use Rattle.showfile.specs.Tests.{has_head, has_sum, is_file_length, numbers_fit, rest_fits, slots_fit}
use Rattle.showfile.specs.Told.{blocks, first_told, head, last_told, rows_read, slots_told, strip_read}

-- a refusal, unless a test is passed
abbrev pub unless : Bool → Content → Option Content
unless passed refusal = if passed then None else Some refusal

-- the refusal of block k: its sum, then its kind and number
abbrev pub block_refusal : (k : ℕ) → List ℕ → Option Content
block_refusal k b =
    option_or (unless (has_sum b) (21, k ∷ [])) (unless (has_head k b) (22, k ∷ []))

-- that of the first block that is refused, counted from k on
abbrev pub blocks_refusal : (k : ℕ) → List (List ℕ) → Option Content
blocks_refusal k [] = None
blocks_refusal k (b ∷ bs) = option_or (block_refusal k b) (blocks_refusal (k + 1) bs)

-- that of the numbers which a first block tells
abbrev pub numbers_refusal : (head : List ℕ) → (room : ℕ) → Option Content
numbers_refusal head room =
    unless (numbers_fit (slots_told head) (first_told head) (last_told head) room) (10, [])

-- that of what else blocks tell: their count and the unused bytes, then the slots
abbrev pub rest_refusal : List (List ℕ) → Option Content
rest_refusal bs = option_or (unless (rest_fits bs) (23, [])) (unless (slots_fit bs) (10, []))

-- that of blocks which are to be read into so much room: block by block, then the list, the
-- numbers, and the rest
abbrev pub content_refusal : List (List ℕ) → (room : ℕ) → Option Content
content_refusal bs room =
    option_or (blocks_refusal 0 bs)
    (option_or (list_refusal (rows_read (head bs)))
    (option_or (numbers_refusal (head bs) room) (rest_refusal bs)))

-- that of a file: its length first
abbrev pub file_refusal : List ℕ → (room : ℕ) → Option Content
file_refusal file room =
    option_or (unless (is_file_length (length file)) (20, [])) (content_refusal (blocks file) room)

-- what a file is read as, into so much room: the strip that it tells, or the first refusal
abbrev pub reading : List ℕ → (room : ℕ) → Result Strip Content
reading file room =
    option_map_or (λ refusal. Err refusal) (file_refusal file room) (Ok (strip_read (blocks file)))
