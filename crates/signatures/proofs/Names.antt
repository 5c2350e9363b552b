-- A name token is read by its bytes.
use Rattle.std.proofs.Common.{◌≡◌, ℕ, List, refl}
use Rattle.words.specs.Words.{word_of}
use Rattle.grammar.specs.Marks.{symbol_or}
use Rattle.terms.specs.Scoping.{Scope}
use Rattle.terms.proofs.Symbols.{by_name}
use Rattle.signatures.specs.Steps.{Listed, says, named}

pub name_says : (σ : Scope) (l : Listed) (bs : List ℕ) (p : ℕ) → says σ l (symbol_or (word_of bs) bs) p ≡ named σ l l.bits bs p
name_says σ l bs p = by_name (λ x. says σ l x p) (λ b. named σ l l.bits b p) (λ w. refl) (λ b. refl) bs
