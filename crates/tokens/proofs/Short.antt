-- A symbol has at most 64 bytes.
use Rattle.std.proofs.Common.{◌≡◌, ℕ, zero, suc, ◌+◌, ◌-◌, ◌≤◌, Bool, true, false, cond, ◌&&◌, ltb, leb, List, [], ◌∷◌, length, get_or, take, drop, Some, None, Ok, Err, Option, Result, refl, subst, arith}
use Rattle.std.proofs.lemmas.List.{length-take}
use Rattle.std.proofs.lemmas.Bool.{leb-true}
use Rattle.chars.specs.declared.Class.{Class}
use Rattle.chars.specs.declared.Class.TheVariants.{Blank, Open, Close, Semicolon, Hash, Colon, Digit, Symbol, Stray}
use Rattle.chars.specs.Classes.{class_of}
use Rattle.chars.specs.Runs.{gap, run}
use Rattle.tokens.specs.declared.Kind.{Kind}
use Rattle.tokens.specs.declared.Kind.TheVariants.{Name, Keyword}
use Rattle.tokens.specs.declared.Token.{Token}
use Rattle.tokens.specs.declared.TokenFault.{TokenFault}
use Rattle.tokens.specs.declared.TokenFault.TheVariants.{Unexpected, TooLong}
use Rattle.tokens.specs.Numbers.{numeral, literal}
use Rattle.tokens.specs.Lexing.{token, named, starts_symbol, counted, written, lexeme, some, next, before, onto, tokens_from, tokens, bytes_of}

module _ (text : List ℕ) where
  abbrev Short : Token → Type 0
  Short t = t.kind ≡ Name → length (bytes_of text t) ≤ 64

  abbrev ShortOne : Result Token TokenFault → Type 0
  ShortOne (Ok t) = Short t
  ShortOne (Err e) = Unit {0}

  named_short : (k : Kind) (n p : ℕ) (b : Bool) → leb n 64 ≡ b → ShortOne (cond b (Ok (token k p (p + n))) (Err (TooLong p)))
  named_short k n p true e = λ _. omega (arith, leb-true n 64 e, length-take (p + n - p) (drop p text))
  named_short k n p false e = tt

  keyed_short : (b : Bool) (n p : ℕ) → ShortOne (cond b (named Keyword n p) (Err (Unexpected p)))
  keyed_short true n p = named_short Keyword n p (leb n 64) refl
  keyed_short false n p = tt

  counted_short : (o : Option ℕ) (n p : ℕ) → ShortOne (counted o n p)
  counted_short None n p = tt
  counted_short (Some v) n p = λ e. let z : ◌≡◌ {A = ℕ} 0 1 = cc in absurd (omega arith)

  written_short : (o : Option (ℕ × ℕ)) (n p : ℕ) → ShortOne (written o n p)
  written_short None n p = tt
  written_short (Some v) n p = λ e. let z : ◌≡◌ {A = ℕ} 0 1 = cc in absurd (omega arith)

  lexeme_short : (c : Class) (p : ℕ) → ShortOne (lexeme c text p)
  lexeme_short Blank p = tt
  lexeme_short Open p = λ e. let z : ◌≡◌ {A = ℕ} 0 1 = cc in absurd (omega arith)
  lexeme_short Close p = λ e. let z : ◌≡◌ {A = ℕ} 0 1 = cc in absurd (omega arith)
  lexeme_short Semicolon p = tt
  lexeme_short Hash p = written_short (literal (take (1 + run (drop (p + 1) text)) (drop p text))) (1 + run (drop (p + 1) text)) p
  lexeme_short Colon p = keyed_short (ltb (p + 1) (length text) && starts_symbol (class_of (get_or text (p + 1) 0))) (1 + run (drop (p + 1) text)) p
  lexeme_short Digit p = counted_short (numeral (take (run (drop p text)) (drop p text))) (run (drop p text)) p
  lexeme_short Symbol p = named_short Name (run (drop p text)) p (leb (run (drop p text)) 64) refl
  lexeme_short Stray p = tt

  abbrev ShortNext : Result (Option Token) TokenFault → Type 0
  ShortNext (Ok None) = Unit {0}
  ShortNext (Ok (Some t)) = Short t
  ShortNext (Err e) = Unit {0}

  some_short : (r : Result Token TokenFault) → ShortOne r → ShortNext (some r)
  some_short (Ok t) h = h
  some_short (Err e) h = tt

  at_short : (b : Bool) (r : Result Token TokenFault) → ShortOne r → ShortNext (cond b (some r) (Ok None))
  at_short true r h = some_short r h
  at_short false r h = tt

  next_short : (at : ℕ) → ShortNext (next text at)
  next_short at = let p = at + gap false (drop at text) in at_short (ltb p (length text)) (lexeme (class_of (get_or text p 0)) text p) (lexeme_short (class_of (get_or text p 0)) p)

  abbrev AllShort : List Token → Type 0
  AllShort [] = Unit {0}
  AllShort (t ∷ ts) = Short t × AllShort ts

  abbrev ShortAll : Result (List Token) TokenFault → Type 0
  ShortAll (Ok ts) = AllShort ts
  ShortAll (Err e) = Unit {0}

  before_short : (t : Token) (r : Result (List Token) TokenFault) → Short t → ShortAll r → ShortAll (before (t ∷ []) r)
  before_short t (Ok ts) h k = (h, k)
  before_short t (Err e) h k = tt

  onto_short : (r : Result (Option Token) TokenFault) (rest : Token → Result (List Token) TokenFault) → ShortNext r → ((t : Token) → ShortAll (rest t)) → ShortAll (onto r rest)
  onto_short (Ok None) rest h k = tt
  onto_short (Ok (Some t)) rest h k = before_short t (rest t) h (k t)
  onto_short (Err e) rest h k = tt

  from_short : (most at : ℕ) → ShortAll (tokens_from most text at)
  unfolding tokens_from
  from_short zero at = tt
  from_short (suc most) at = onto_short (next text at) (λ t. tokens_from most text t.end) (next_short at) (λ t. from_short most t.end)

  one_short : (ts : List Token) (i : ℕ) (d : Token) → AllShort ts → (d.kind ≡ Name → ⊥) → Short (get_or ts i d)
  one_short [] i d h n = λ e. absurd (n e)
  one_short (t ∷ ts) zero d h n = h.0
  one_short (t ∷ ts) (suc i) d h n = one_short ts i d h.1 n

  -- each name among the tokens of a text
  pub short_names : (ts : List Token) (i : ℕ) (d : Token) → tokens text ≡ Ok ts → (d.kind ≡ Name → ⊥) → (get_or ts i d).kind ≡ Name → length (bytes_of text (get_or ts i d)) ≤ 64
  short_names ts i d e n k = one_short ts i d (subst ShortAll e (from_short (length text) 0)) n k
