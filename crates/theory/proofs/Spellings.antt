-- A function of the theories is told by its name.
use Rattle.std.proofs.Common.{◌≡◌, ℕ, List, Some, Option, refl, rules, subst, sym}
use Rattle.bitvec.specs.declared.Operation.TheVariants as bits
use Rattle.words.proofs.Found.{found_spells, found_holds}
use Rattle.theory.specs.declared.Logic.{Logic}
use Rattle.theory.specs.declared.Logic.TheVariants.{QfUf, QfBv}
use Rattle.theory.specs.declared.Operator.{Operator}
use Rattle.theory.specs.declared.Operator.TheVariants.{True, Bits}
use Rattle.words.specs.Spelled.{same, first}
use Rattle.theory.specs.Names.{spelling, core, operators, operator_of, Stands, Named}

itself : (l : Logic) (o : Operator) → Stands l o → operator_of l (spelling o) ≡ Some o
unfolding operator_of same
itself QfUf True h = refl
itself QfUf (Bits o) h = absurd h
itself QfUf _ h = refl
itself QfBv True h = refl
itself QfBv (Bits bits.Not) h = refl
itself QfBv (Bits _) h = refl
itself QfBv _ h = refl

stands : (l : Logic) (bs : List ℕ) (o : Operator) → first spelling (operators l) bs ≡ Some o → Stands l o
stands QfUf bs o e = found_holds (Stands QfUf) spelling core bs o (search rules) e
stands QfBv bs o e = tt

pub named : (l : Logic) (bs : List ℕ) → Named l bs (operator_of l bs)
unfolding operator_of
named l bs o = (λ e. (stands l bs o e, found_spells spelling (operators l) bs o e), λ h. subst (λ x. operator_of l x ≡ Some o) h.1 (itself l o h.0))

-- The law of an answer that is the defined one.
pub named_by : (l : Logic) (bs : List ℕ) (r : Option Operator) → r ≡ operator_of l bs → Named l bs r
named_by l bs r e = subst (λ r. Named l bs r) (sym e) (named l bs)
