-- The classes of characters. A character is a byte, a number.
use Rattle.std.specs.Prelude.{◌≡◌, ℕ, Bool, true, false, cond, not, ◌&&◌, ◌||◌, List, [], ◌∷◌, codes, ◌==◌, nat_le}
use Rattle.chars.specs.declared.Class.{Class}
use Rattle.chars.specs.declared.Class.TheVariants.{Blank, Open, Close, Semicolon, Hash, Colon, Digit, Symbol, Stray}

abbrev pub within : ℕ → ℕ → ℕ → Bool
within low high b = nat_le low b && nat_le b high

abbrev pub among : List ℕ → ℕ → Bool
among [] b = false
among (c ∷ cs) b = b == c || among cs b

-- tab, line feed, carriage return, space
abbrev pub is_blank : ℕ → Bool
is_blank b = b == 9 || b == 10 || b == 13 || b == 32

abbrev pub is_letter : ℕ → Bool
is_letter b = within 97 122 b || within 65 90 b

abbrev pub is_digit : ℕ → Bool
is_digit b = within 48 57 b

abbrev pub is_mark : ℕ → Bool
is_mark b = among (codes "~!@$%^&*_-+=<>.?/") b

-- a symbol character or a digit
abbrev pub is_word : ℕ → Bool
is_word b = is_letter b || is_digit b || is_mark b

abbrev pub classes : ℕ → Class
classes b =
    cond (is_blank b) Blank
    (cond (b == 40) Open
    (cond (b == 41) Close
    (cond (b == 59) Semicolon
    (cond (b == 35) Hash
    (cond (b == 58) Colon
    (cond (is_digit b) Digit
    (cond (is_letter b || is_mark b) Symbol Stray)))))))

-- The class of a byte, shut for its users.
unfoldable pub class_of : ℕ → Class
class_of b = classes b

-- Which bytes belong to a class, each class told by itself.
abbrev pub belongs : Class → ℕ → Bool
belongs Blank b = is_blank b
belongs Open b = b == 40
belongs Close b = b == 41
belongs Semicolon b = b == 59
belongs Hash b = b == 35
belongs Colon b = b == 58
belongs Digit b = is_digit b
belongs Symbol b = is_letter b || is_mark b
belongs Stray b = not (is_blank b || b == 40 || b == 41 || b == 59 || b == 35 || b == 58 || is_word b)

-- The byte belongs to the class c and to no other.
pub record Exactly (b : ℕ) (c : Class) : Type 0 where
  pub one : belongs c b ≡ true
  pub only : (d : Class) → belongs d b ≡ true → d ≡ c
