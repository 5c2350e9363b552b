-- A name token is read by its bytes, whether its spelling is reserved or not.
use Rattle.std.proofs.Common.{◌≡◌, ℕ, List, Some, None, Option, refl, ap, ◌∙◌}
use Rattle.words.specs.declared.Word.{Word}
use Rattle.words.specs.Words.{spelling, word_of}
use Rattle.words.proofs.Spellings.{told}
use Rattle.grammar.specs.Marks.{Lexeme, word, symbol, symbol_or}

pub by_name : {X : Type 0} (F : Lexeme → X) (G : List ℕ → X)
    → ((w : Word) → F (word w) ≡ G (spelling w)) → ((bs : List ℕ) → F (symbol bs) ≡ G bs)
    → (bs : List ℕ) → F (symbol_or (word_of bs) bs) ≡ G bs
by_name F G f g bs = go (word_of bs) refl
  where
    go : (o : Option Word) → word_of bs ≡ o → F (symbol_or o bs) ≡ G bs
    go None e = g bs
    go (Some w) e = f w ∙ ap G ((told bs w).0 e)
