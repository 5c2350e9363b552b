-- What `run` counts is a word, as far as it goes; and what the class of a byte tells.
use Rattle.std.proofs.Common.{◌≡◌, ℕ, suc, ◌+◌, ◌-◌, ◌<◌, ◌≤◌, Bool, true, false, cond, ◌||◌, List, [], ◌∷◌, length, get_or, take, drop, sym, refl, ap, ◌∙◌, subst, inl, inr, arith}
use Rattle.std.proofs.lemmas.List.{length-drop, get_or-drop, drop_more}
use Rattle.std.proofs.lemmas.Bool.{both_ways}
use Rattle.chars.specs.declared.Class.{Class}
use Rattle.chars.specs.declared.Class.TheVariants.{Blank, Open, Close, Semicolon, Hash, Colon, Digit, Symbol, Stray}
use Rattle.chars.specs.Classes.{is_word, class_of, belongs}
use Rattle.chars.specs.Runs.{run}
use Rattle.chars.proofs.Exact.{exactly}
use Rattle.tokens.specs.Lexing.{starts_symbol}
use Rattle.tokens.specs.Spelling.{Words, Runs, WordAt, part}

abbrev Ran : ℕ → List ℕ → Type 0
Ran n s = (n ≤ length s) × Words (take n s) × Runs s n

further : (b : ℕ) (s : List ℕ) (n : ℕ) → Runs s n → Runs (b ∷ s) (suc n)
further b s n (inl e) = inl (ap suc e)
further b s n (inr h) = inr h

step : (b : ℕ) (s : List ℕ) (word : Bool) → is_word b ≡ word → Ran (run s) s → Ran (cond word (suc (run s)) 0) (b ∷ s)
step b s true h (le, ws, r) = (omega arith, (h, ws), further b s (run s) r)
step b s false h (le, ws, r) = (omega arith, tt, inr h)

ran : (s : List ℕ) → Ran (run s) s
ran [] = (omega arith, tt, inl refl)
ran (b ∷ s) = step b s (is_word b) refl (ran s)

moved : (text : List ℕ) (p n : ℕ) → p ≤ length text → Runs (drop p text) n → Runs text (p + n)
moved text p n h (inl e) = inl (omega (arith, length-drop p text))
moved text p n h (inr w) = inr (rw get_or-drop at w)

pub part-front : (text : List ℕ) (p n : ℕ) → part text p (p + n) ≡ take n (drop p text)
part-front text p n = let k : p + n - p ≡ n = omega arith in ap (λ z. take z (drop p text)) k

-- the first byte of the part from p on, and the rest
pub part_cons : (text : List ℕ) (p end : ℕ) → p < length text → p < end → part text p end ≡ get_or text p 0 ∷ part text (p + 1) end
part_cons text p end h l =
    let k : end - p ≡ suc (end - (p + 1)) = omega arith in
    ap (λ z. take z (drop p text)) k ∙ ap (take (suc (end - (p + 1)))) (drop_more text p 0 h)

pub word_at : (text : List ℕ) (p : ℕ) → p ≤ length text → WordAt text p (p + run (drop p text))
word_at text p h =
    let r = ran (drop p text) in
    let d = length-drop p text in
    record {
      ordered = omega arith;
      within = omega (arith, r.0);
      words = subst Words (sym (part-front text p (run (drop p text)))) r.1;
      whole = moved text p (run (drop p text)) h r.2;
    }

-- a word with its first byte has one
pub word-long : (text : List ℕ) (p : ℕ) → p < length text → is_word (get_or text p 0) ≡ true → 0 < run (drop p text)
word-long text p h w = let e = ap run (drop_more text p 0 h) ∙ ap (λ v. cond v (suc (run (drop (p + 1) text))) 0) w in omega arith

-- a symbol character, and a digit, belong to a word
pub symbol-word : (letter digit mark : Bool) → (letter || mark) ≡ true → (letter || digit || mark) ≡ true
symbol-word true digit mark h = refl
symbol-word false true mark h = refl
symbol-word false false mark h = h

pub digit_word : (letter digit mark : Bool) → digit ≡ true → (letter || digit || mark) ≡ true
digit_word true digit mark h = refl
digit_word false true mark h = refl
digit_word false false mark h = absurd (both_ways false refl h)

-- the class of a byte, and what belongs to it
pub class_tells : (b : ℕ) (c : Class) → class_of b ≡ c → belongs c b ≡ true
unfolding class_of
class_tells b c e = subst (λ d. belongs d b ≡ true) e (exactly b).one

pub class_only : (b : ℕ) (c : Class) → belongs c b ≡ true → c ≡ class_of b
unfolding class_of
class_only b c h = (exactly b).only c h

starts : (c : Class) → starts_symbol c ≡ true → c ≡ Symbol
starts Blank e = absurd (both_ways false refl e)
starts Open e = absurd (both_ways false refl e)
starts Close e = absurd (both_ways false refl e)
starts Semicolon e = absurd (both_ways false refl e)
starts Hash e = absurd (both_ways false refl e)
starts Colon e = absurd (both_ways false refl e)
starts Digit e = absurd (both_ways false refl e)
starts Symbol e = refl
starts Stray e = absurd (both_ways false refl e)

pub symbol_starts : (b : ℕ) → starts_symbol (class_of b) ≡ true → belongs Symbol b ≡ true
symbol_starts b e = class_tells b Symbol (starts (class_of b) e)

none_starts : (b : ℕ) (t : Bool) → belongs Symbol b ≡ t → starts_symbol (class_of b) ≡ false → t ≡ false
none_starts b false h e = refl
none_starts b true h e = absurd (both_ways (starts_symbol (class_of b)) e (ap starts_symbol (sym (class_only b Symbol h))))

pub no_symbol_starts : (b : ℕ) → starts_symbol (class_of b) ≡ false → belongs Symbol b ≡ false
no_symbol_starts b e = none_starts b (belongs Symbol b) refl e
