-- Every byte belongs to exactly one class.
use Rattle.std.proofs.Common.{◌≡◌, ℕ, Bool, true, cond, not, ◌||◌, eqb, sym, subst, arith}
use Rattle.std.proofs.lemmas.Bool.Decides.{nat_tests}
use Rattle.chars.specs.declared.Class.{Class}
use Rattle.chars.specs.declared.Class.TheVariants.{Blank, Open, Close, Semicolon, Hash, Colon, Digit, Symbol, Stray}
use Rattle.chars.specs.Classes.{is_blank, is_letter, is_digit, is_mark, classes, belongs, Exactly}

one : (b : ℕ) → belongs (classes b) b ≡ true
one b = grind (arith, nat_tests)

-- nothing else is left
stray : (blank opens closes semicolon hash colon letter digit mark : Bool)
    → not (blank || opens || closes || semicolon || hash || colon || (letter || digit || mark)) ≡ true
    → Stray ≡ cond blank Blank (cond opens Open (cond closes Close (cond semicolon Semicolon (cond hash Hash (cond colon Colon (cond digit Digit (cond (letter || mark) Symbol Stray)))))))
stray blank opens closes semicolon hash colon letter digit mark p = grind (arith, nat_tests)

only : (b : ℕ) (d : Class) → belongs d b ≡ true → d ≡ classes b
only b Blank h = grind (arith, nat_tests)
only b Open h = grind (arith, nat_tests)
only b Close h = grind (arith, nat_tests)
only b Semicolon h = grind (arith, nat_tests)
only b Hash h = grind (arith, nat_tests)
only b Colon h = grind (arith, nat_tests)
only b Digit h = grind (arith, nat_tests)
only b Symbol h = grind (arith, nat_tests)
only b Stray h = stray (is_blank b) (eqb b 40) (eqb b 41) (eqb b 59) (eqb b 35) (eqb b 58) (is_letter b) (is_digit b) (is_mark b) h

pub exactly : (b : ℕ) → Exactly b (classes b)
exactly b = record { one = one b; only = only b }

-- the class that a byte has by its tests is the one that it belongs to
pub exactly_by : (b : ℕ) (c : Class) → c ≡ classes b → Exactly b c
exactly_by b c e = subst (Exactly b) (sym e) (exactly b)
