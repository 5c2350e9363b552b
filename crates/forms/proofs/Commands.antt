-- A command that is read by its kind: its tree, and its tokens written out.
use Rattle.std.proofs.Common.{◌≡◌, ℕ, List, [], ◌∷◌, ◌++◌, Ok, sym, refl, ap, ◌∙◌, subst}
use Rattle.words.specs.declared.Word.TheVariants as words
use Rattle.tokens.specs.declared.Token.{Token}
use Rattle.grammar.specs.Marks.{mark, open_list, close_list, word, numeral, marks}
use Rattle.forms.specs.declared.Command.{Command}
use Rattle.forms.specs.declared.Command.TheVariants.{SetLogic, DeclareSort, DeclareFun, DeclareConst, Assert, Push, Pop, CheckSat, CheckSatAssuming, GetValue, GetInfo, Reset, Exit, Other}
use Rattle.forms.specs.Syntax.{Name, SortName, Term, set_logic, declare_sort, declare_fun, declare_const, assert, push, pop, check_sat, check_sat_assuming, get_value, get_info, reset, exit, Tree, command, other, symbol_mark, spell_sort, spell_sorts, spell_term, spell}
use Rattle.forms.specs.Trees.{tree_of}
use Rattle.forms.specs.Forms.{formed}
use Rattle.forms.specs.Laws.{Points}
use Rattle.forms.proofs.Trees.{one_tree}
use Rattle.forms.proofs.Whole.{reading}

-- The trees that a command of the kind points at.
abbrev Shaped : Tree → Command → Type 0
Shaped t (SetLogic n) = Unit {0}
Shaped t DeclareSort = (o w c : ℕ) × ((n : Name) × (z : ℕ) × (t ≡ command o w (declare_sort n z) c))
Shaped t DeclareFun = (o w c : ℕ) × ((n : Name) × (p : ℕ) × (ss : List SortName) × (q : ℕ) × (s : SortName) × (t ≡ command o w (declare_fun n p ss q s) c))
Shaped t DeclareConst = (o w c : ℕ) × ((n : Name) × (s : SortName) × (t ≡ command o w (declare_const n s) c))
Shaped t Assert = (o w c : ℕ) × ((x : Term) × (t ≡ command o w (assert x) c))
Shaped t (Push n p) = Unit {0}
Shaped t (Pop n p) = Unit {0}
Shaped t CheckSat = Unit {0}
Shaped t CheckSatAssuming = Unit {0}
Shaped t GetValue = Unit {0}
Shaped t (GetInfo n) = Unit {0}
Shaped t Reset = Unit {0}
Shaped t Exit = Unit {0}
Shaped t Other = Unit {0}

shaped : (text : List ℕ) (t : Tree) (c : Command) → Points text t c → Shaped t c
shaped text (command o w (set_logic n) e) c h = subst (Shaped (command o w (set_logic n) e)) (sym h.1) tt
shaped text (command o w (declare_sort n z) e) c h = subst (Shaped (command o w (declare_sort n z) e)) (sym h) (o, w, e, (n, z, refl))
shaped text (command o w (declare_fun n p ss q s) e) c h = subst (Shaped (command o w (declare_fun n p ss q s) e)) (sym h) (o, w, e, (n, p, ss, q, s, refl))
shaped text (command o w (declare_const n s) e) c h = subst (Shaped (command o w (declare_const n s) e)) (sym h) (o, w, e, (n, s, refl))
shaped text (command o w (assert x) e) c h = subst (Shaped (command o w (assert x) e)) (sym h) (o, w, e, (x, refl))
shaped text (command o w (push n) e) c h = subst (Shaped (command o w (push n) e)) (sym h) tt
shaped text (command o w (pop n) e) c h = subst (Shaped (command o w (pop n) e)) (sym h) tt
shaped text (command o w check_sat e) c h = subst (Shaped (command o w check_sat e)) (sym h) tt
shaped text (command o w (check_sat_assuming p ls q) e) c h = subst (Shaped (command o w (check_sat_assuming p ls q) e)) (sym h) tt
shaped text (command o w (get_value p t ts q) e) c h = subst (Shaped (command o w (get_value p t ts q) e)) (sym h) tt
shaped text (command o w (get_info k) e) c h = subst (Shaped (command o w (get_info k) e)) (sym h.1) tt
shaped text (command o w reset e) c h = subst (Shaped (command o w reset e)) (sym h) tt
shaped text (command o w exit e) c h = subst (Shaped (command o w exit e)) (sym h) tt
shaped text (other o n es e) c h = subst (Shaped (other o n es e)) (sym h) tt

module _ (text : List ℕ) (ts : List Token) where
  read_shape : (c : Command) → formed text ts ≡ Ok c → Shaped (tree_of (marks text ts)) c
  read_shape c e =
      let r = (reading text ts).accepted c e in
      shaped text (tree_of (marks text ts)) c (subst (λ t. Points text t c) (one_tree r.0 (marks text ts) r.1) r.2)

  -- the tokens are those of the tree that theirs is
  read-marks : (c : Command) → formed text ts ≡ Ok c → (t : Tree) → tree_of (marks text ts) ≡ t → marks text ts ≡ spell t
  read-marks c e t q =
      let r = (reading text ts).accepted c e in
      sym r.1 ∙ ap spell (one_tree r.0 (marks text ts) r.1 ∙ q)

  pub assert-marks : formed text ts ≡ Ok Assert → (o w c : ℕ) × ((t : Term)
      × (tree_of (marks text ts) ≡ command o w (assert t) c)
      × (marks text ts ≡ mark open_list o ∷ (mark (word words.Assert) w ∷ (spell_term t ++ (mark close_list c ∷ [])))))
  assert-marks e =
      let s = read_shape Assert e in
      (s.0, s.1, s.2, (s.3.0, s.3.1, read-marks Assert e (command s.0 s.1 (assert s.3.0) s.2) s.3.1))

  pub declare_sort_marks : formed text ts ≡ Ok DeclareSort → (o w c : ℕ) × ((n : Name) × (z : ℕ)
      × (tree_of (marks text ts) ≡ command o w (declare_sort n z) c)
      × (marks text ts ≡ mark open_list o ∷ (mark (word words.DeclareSort) w ∷ (symbol_mark n ∷ (mark (numeral 0) z ∷ (mark close_list c ∷ []))))))
  declare_sort_marks e =
      let s = read_shape DeclareSort e in
      (s.0, s.1, s.2, (s.3.0, s.3.1, s.3.2, read-marks DeclareSort e (command s.0 s.1 (declare_sort s.3.0 s.3.1) s.2) s.3.2))

  pub declare_fun_marks : formed text ts ≡ Ok DeclareFun → (o w c : ℕ) × ((n : Name) × (p : ℕ) × (ss : List SortName) × (q : ℕ) × (s : SortName)
      × (tree_of (marks text ts) ≡ command o w (declare_fun n p ss q s) c)
      × (marks text ts ≡ mark open_list o ∷ (mark (word words.DeclareFun) w ∷ (symbol_mark n ∷ (mark open_list p ∷ ((spell_sorts ss ++ (mark close_list q ∷ spell_sort s)) ++ (mark close_list c ∷ [])))))))
  declare_fun_marks e =
      let s = read_shape DeclareFun e in (
        s.0,
        s.1,
        s.2,
        (
          s.3.0,
          s.3.1,
          s.3.2,
          s.3.3,
          s.3.4,
          s.3.5,
          read-marks DeclareFun e (command s.0 s.1 (declare_fun s.3.0 s.3.1 s.3.2 s.3.3 s.3.4) s.2) s.3.5,
        ),
      )

  pub declare_const_marks : formed text ts ≡ Ok DeclareConst → (o w c : ℕ) × ((n : Name) × (s : SortName)
      × (tree_of (marks text ts) ≡ command o w (declare_const n s) c)
      × (marks text ts ≡ mark open_list o ∷ (mark (word words.DeclareConst) w ∷ (symbol_mark n ∷ (spell_sort s ++ (mark close_list c ∷ []))))))
  declare_const_marks e =
      let s = read_shape DeclareConst e in
      (s.0, s.1, s.2, (s.3.0, s.3.1, s.3.2, read-marks DeclareConst e (command s.0 s.1 (declare_const s.3.0 s.3.1) s.2) s.3.2))
