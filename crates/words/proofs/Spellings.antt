-- A word is told by its spelling.
use Rattle.std.proofs.Common.{◌≡◌, ℕ, List, Some, refl, subst}
use Rattle.words.proofs.Found.{found_spells}
use Rattle.words.specs.declared.Word.{Word}
use Rattle.words.specs.declared.Word.TheVariants.{Push}
use Rattle.words.specs.Words.{same, spelling, all_words, word_of, Told}

itself : (w : Word) → word_of (spelling w) ≡ Some w
unfolding word_of same
itself Push = refl
itself _ = refl

pub told : (bs : List ℕ) → Told bs (word_of bs)
unfolding word_of
told bs w = (λ e. found_spells spelling all_words bs w e, λ e. subst (λ x. word_of x ≡ Some w) e (itself w))
