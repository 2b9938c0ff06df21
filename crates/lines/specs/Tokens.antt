-- What a token holds, and which kind of token a piece of a line is.
use Rattle.std.specs.Prelude.{ℕ, Bool, true, false, List, [], ◌∷◌, None, Option}
use Rattle.std.specs.Char.{is_ascii_digit}
use Rattle.lines.specs.declared.token.Token.{Token}
use Rattle.lines.specs.declared.token.Token.TheVariants.{Word, Number}
use Rattle.lines.specs.Numeral.{numeral}

-- the bytes of a token
abbrev pub bytes_of : Token → List ℕ
bytes_of (Word w) = w.now
bytes_of (Number d) = d.now

-- whether a token is a number
abbrev pub is_number : Token → Bool
is_number (Word w) = false
is_number (Number d) = true

-- whether the first byte of a piece is a digit
abbrev pub begins_with_digit : List ℕ → Bool
begins_with_digit [] = false
begins_with_digit (b ∷ _) = is_ascii_digit b

-- the value of a token; none of a word
abbrev pub number_of : Token → Option ℕ
number_of (Word w) = None
number_of (Number d) = numeral d.now
