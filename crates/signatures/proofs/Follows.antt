-- Reading the sorts of a declaration token by token gives what the trees say.
use Rattle.std.proofs.Common.{◌≡◌, ℕ, List, [], ◌∷◌, ◌++◌, length, Some, None, Ok, Err, Option, Result, sym, refl, ap, ◌∙◌, append_assoc}
use Rattle.std.proofs.lemmas.List.{append-nil, take_at, get_or_push}
use Rattle.grammar.specs.Marks.{Mark, mark, close_list}
use Rattle.forms.specs.Syntax as syntax
use Rattle.forms.specs.Syntax.{spell_sort, spell_sorts}
use Rattle.theory.specs.declared.Sort.{Sort}
use Rattle.theory.specs.declared.Sort.TheVariants as sorts
use Rattle.terms.specs.declared.SortFault.{SortFault}
use Rattle.terms.specs.Records.{Function}
use Rattle.terms.specs.Scoping.{Scope, sort_named}
use Rattle.terms.specs.Sorting.{after, found, bits_at, sort_of, sort_start, argument_of, arguments_of, function_of}
use Rattle.terms.proofs.Sequences.{after-after, after_same, after_made}
use Rattle.signatures.specs.Steps.{Listed, listed, checked, added, read}
use Rattle.signatures.specs.Views.{placed, function_in, Follows}

module _ (σ : Scope) where
  -- one sort, at any stage
  sort-read : (k : syntax.SortName) (ss : List Sort) (a : Option ℕ) (ms : List Mark)
      → read σ (listed ss None a) (spell_sort k ++ ms) ≡ after (after (sort_of σ k) (checked a (sort_start k))) (λ x. read σ (listed (ss ++ (x ∷ [])) None a) ms)
  sort-read (syntax.sort_symbol n) ss a ms = go (found (sort_named σ n.bytes) n.at)
    where
      one : (r : Result Sort SortFault) → after (after r (λ x. Ok (listed (ss ++ (x ∷ [])) None a))) (λ t. read σ t ms) ≡ after r (λ x. read σ (listed (ss ++ (x ∷ [])) None a) ms)
      one (Ok x) = refl
      one (Err e) = refl

      go : (r : Result Sort SortFault) → after (after r (added (listed ss None a) n.at)) (λ t. read σ t ms) ≡ after (after r (checked a n.at)) (λ x. read σ (listed (ss ++ (x ∷ [])) None a) ms)
      go (Ok x) = one (checked a n.at x)
      go (Err e) = refl
  sort-read (syntax.bit_vectors o u b w c) ss a ms = go (bits_at σ.logic w.value o)
    where
      one : (r : Result Sort SortFault) → after (after r (λ x. Ok (listed (ss ++ (x ∷ [])) (Some o) a))) (λ t. read σ t (mark close_list c ∷ ms)) ≡ after r (λ x. read σ (listed (ss ++ (x ∷ [])) None a) ms)
      one (Ok x) = refl
      one (Err e) = refl

      go : (r : Result Sort SortFault) → after (after r (added (listed ss (Some o) a) o)) (λ t. read σ t (mark close_list c ∷ ms)) ≡ after (after r (checked a o)) (λ x. read σ (listed (ss ++ (x ∷ [])) None a) ms)
      go (Ok x) = one (checked a o x)
      go (Err e) = refl

  arguments-read : (ks : List syntax.SortName) (ss : List Sort) (ms : List Mark)
      → read σ (listed ss None None) (spell_sorts ks ++ ms) ≡ after (arguments_of σ ks) (λ xs. read σ (listed (ss ++ xs) None None) ms)
  arguments-read [] ss ms = ap (λ l. read σ (listed l None None) ms) (sym (append-nil ss))
  arguments-read (k ∷ ks) ss ms =
      ap (read σ (listed ss None None)) (append_assoc (spell_sort k) (spell_sorts ks) ms)
      ∙ sort-read k ss None (spell_sorts ks ++ ms)
      ∙ after_same (argument_of σ k)
      (λ x. read σ (listed (ss ++ (x ∷ [])) None None) (spell_sorts ks ++ ms))
      (λ x. after (after (arguments_of σ ks) (λ xs. Ok (x ∷ xs))) (λ xs. read σ (listed (ss ++ xs) None None) ms))
      (λ x.
      arguments-read ks (ss ++ (x ∷ [])) ms
      ∙ after_same (arguments_of σ ks) (λ xs. read σ (listed ((ss ++ (x ∷ [])) ++ xs) None None) ms) (λ xs. read σ (listed (ss ++ (x ∷ xs)) None None) ms) (λ xs. ap (λ l. read σ (listed l None None) ms) (append_assoc ss (x ∷ []) xs))
      ∙ sym (after_made (arguments_of σ ks) (λ xs. x ∷ xs) (λ xs. read σ (listed (ss ++ xs) None None) ms)))
      ∙ sym (after-after (argument_of σ k) (λ x. after (arguments_of σ ks) (λ xs. Ok (x ∷ xs))) (λ xs. read σ (listed (ss ++ xs) None None) ms))

  -- the result, and the closing parenthesis of the command
  result-read : (k : syntax.SortName) (xs : List Sort) (n c : ℕ)
      → read σ (listed xs None (Some n)) (spell_sort k ++ (mark close_list c ∷ [])) ≡ after (sort_of σ k) (λ x. Ok (listed (xs ++ (x ∷ [])) None (Some n)))
  result-read k xs n c = sort-read k xs (Some n) (mark close_list c ∷ []) ∙ go (sort_of σ k)
    where
      go : (r : Result Sort SortFault) → after (after r (checked (Some n) (sort_start k))) (λ x. read σ (listed (xs ++ (x ∷ [])) None (Some n)) (mark close_list c ∷ [])) ≡ after r (λ x. Ok (listed (xs ++ (x ∷ [])) None (Some n)))
      go (Ok x) = refl
      go (Err e) = refl

  -- arguments and result of `declare_fun`, behind the parenthesis that opens the arguments
  pub function-read : (ks : List syntax.SortName) (k : syntax.SortName) (q c : ℕ)
      → read σ (listed [] None None) ((spell_sorts ks ++ (mark close_list q ∷ spell_sort k)) ++ (mark close_list c ∷ []))
      ≡ after (arguments_of σ ks) (λ xs. after (sort_of σ k) (λ x. Ok (listed (xs ++ (x ∷ [])) None (Some (length xs)))))
  function-read ks k q c =
      ap (read σ (listed [] None None)) (append_assoc (spell_sorts ks) (mark close_list q ∷ spell_sort k) (mark close_list c ∷ []))
      ∙ arguments-read ks [] (mark close_list q ∷ (spell_sort k ++ (mark close_list c ∷ [])))
      ∙ after_same (arguments_of σ ks)
      (λ xs. read σ (listed xs None None) (mark close_list q ∷ (spell_sort k ++ (mark close_list c ∷ []))))
      (λ xs. after (sort_of σ k) (λ x. Ok (listed (xs ++ (x ∷ [])) None (Some (length xs)))))
      (λ xs. result-read k xs (length xs) c)

  -- the sort of `declare_const`
  pub constant-read : (k : syntax.SortName) (c : ℕ)
      → read σ (listed [] None (Some 0)) (spell_sort k ++ (mark close_list c ∷ [])) ≡ after (sort_of σ k) (λ x. Ok (listed (x ∷ []) None (Some 0)))
  constant-read k c = result-read k [] 0 c

-- the function that was read, or the fault
abbrev taken : List ℕ → Result Listed SortFault → Result Function SortFault
taken n r = after r (λ l. Ok (function_in n l))

taken_placed : (n : List ℕ) (r : Result (Unit {0}) SortFault) (l : Listed) → taken n (placed r l) ≡ placed r (function_in n l)
taken_placed n (Ok u) l = refl
taken_placed n (Err e) l = refl

-- arguments first, then the result
taken_listed : (n : List ℕ) (xs : List Sort) (x : Sort) → function_in n (listed (xs ++ (x ∷ [])) None (Some (length xs))) ≡ record { name = n; arguments = xs; result = x }
taken_listed n xs x = let a = take_at xs (x ∷ []) (length xs) refl in let b = get_or_push xs x sorts.Bool (length xs) refl in λ i. record { name = n; arguments = a i; result = b i }

module _ (σ : Scope) (ms : List Mark) (r : Result (Unit {0}) SortFault) (l : Listed) where
  function_taken : (n : List ℕ) (ks : List syntax.SortName) (k : syntax.SortName)
      → after (arguments_of σ ks) (λ xs. after (sort_of σ k) (λ x. Ok (listed (xs ++ (x ∷ [])) None (Some (length xs))))) ≡ placed r l → function_of σ n ks k ≡ placed r (function_in n l)
  function_taken n ks k e = go (arguments_of σ ks) (sort_of σ k) ∙ ap (taken n) e ∙ taken_placed n r l
    where
      go : (args : Result (List Sort) SortFault) (b : Result Sort SortFault)
          → after args (λ xs. after b (λ x. Ok (record { name = n; arguments = xs; result = x }))) ≡ taken n (after args (λ xs. after b (λ x. Ok (listed (xs ++ (x ∷ [])) None (Some (length xs))))))
      go (Ok xs) (Ok x) = ap (λ f. Ok f) (sym (taken_listed n xs x))
      go (Ok xs) (Err f) = refl
      go (Err f) b = refl

  pub follows : (a : Option ℕ) → read σ (listed [] None a) ms ≡ placed r l → Follows σ ms a r l
  follows a e = record {
    function = λ n ks k q c h m. function_taken n ks k (sym (function-read σ ks k q c) ∙ ap (read σ (listed [] None None)) (sym m) ∙ ap (λ o. read σ (listed [] None o) ms) (sym h) ∙ e);
    constant = λ n k c h m. function_taken n [] k (sym (constant-read σ k c) ∙ ap (read σ (listed [] None (Some 0))) (sym m) ∙ ap (λ o. read σ (listed [] None o) ms) (sym h) ∙ e);
  }
