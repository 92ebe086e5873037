-- What is put in leaves settled expressions, and its names where a name was wanted.
use Rattle.std.proofs.Common.{◌≡◌, ℕ, ◌+◌, ◌-◌, Bool, true, false, cond, ◌&&◌, ◌||◌, ◌==◌, not}
use Rattle.std.proofs.Common.{List, [], ◌∷◌, ◌++◌, length, map, fold, flat_map, sum, Some, None}
use Rattle.std.proofs.Common.{◌⊎◌, inl, inr, ⊎_elim, refl, sym, ap, ap₂, subst, ◌∙◌, arith}
use Rattle.std.proofs.Common.{ltb-true}
use Rattle.std.specs.Prelude.{Contains, IsTrue, IsFalse}
use Rattle.std.specs.List.{list_any}
use Rattle.std.proofs.lemmas.Bool.{false≢true}
use Rattle.std.proofs.lemmas.List.Sums.{sum_by-cons}
use Rattle.sv_num.specs.declared.faults.Place.{Place}
use Rattle.sv_num.specs.Parts.{span_of}
use Rattle.sv_system.proofs.Lists.{Contains-head, Contains-later, Contains-map}
use Rattle.sv_system.proofs.Lists.{Contains-from_map, map_map}
use Rattle.sv_flat.specs.Design.{SignalForm, TypedTree, typed, read, read_bit}
use Rattle.sv_flat.specs.Design.{read_part, held, mend, slice}
use Rattle.sv_flat.specs.Design.{constant, PieceForm}
use Rattle.sv_flat.specs.Values.{signal_of, signal_width}
use Rattle.sv_flat.specs.Soundness.{is_whole, well_formed}
use Rattle.sv_flat.specs.Readings.{ReadForm, whole_read, indexed_read, reads}
use Rattle.sv_flat.proofs.ReadSignals.{reads_signals}
use Rattle.sv_obl.specs.Exchange.{Instead, name, content, for_whole, for_bit, for_part}
use Rattle.sv_flat.proofs.Members.{only}
use Rattle.sv_obl.specs.Wanted.{with_copies, copy_of, is_copy, original, wanted_name, piece_value}
use Rattle.sv_obl.specs.Wanted.{with_piece_put, put_value, pieces_put, put_in, close, closed_tree}
use Rattle.sv_obl.specs.Paths.{StepForm, step_with, name_itself, pieces_of, puts_in}
use Rattle.sv_obl.proofs.PutFacts.{copy_is_copy, original_of_copy, signal_is_settled}
use Rattle.sv_obl.specs.Routes.{names_in}
use Rattle.sv_obl.proofs.RouteNames.{names_alike}
use Rattle.sv_obl.proofs.TreeFacts.{part_read}
use Rattle.sv_paths.proofs.PutNames.{piece_names, some_piece, some_of, put_names}
use Rattle.sv_paths.proofs.PutNames.{names_put as all_names_put}
use Rattle.sv_obl.proofs.Unchanged.{exchanged_itself}

-- ---- lists

pub map_same : {X : Type 0} (f : X → X) (xs : List X)
    → ((x : X) → Contains xs x → f x ≡ x) → map f xs ≡ xs
map_same f [] same = refl
map_same f (x ∷ xs) same = ap₂ (λ a b. a ∷ b) (same x (Contains-head x xs))
    (map_same f xs (λ y at. same y (Contains-later x xs y at)))

pub kept_each : (f : ℕ → List ℕ) (xs : List ℕ) → ((x : ℕ) → Contains xs x → f x ≡ x ∷ [])
    → flat_map f xs ≡ xs
kept_each f [] same = refl
kept_each f (x ∷ xs) same = ap₂ (λ a b. a ++ b) (same x (Contains-head x xs))
    (kept_each f xs (λ y at. same y (Contains-later x xs y at)))

pub none_counted : (f : ℕ → ℕ) (xs : List ℕ) → ((x : ℕ) → Contains xs x → f x ≡ 0) →
    sum (map f xs) ≡ 0
none_counted f [] none = refl
none_counted f (x ∷ xs) none =
    sum_by-cons (λ k. k) (f x) (map f xs)
    ∙ ap₂ (λ a b. a + b) (none x (Contains-head x xs))
    (none_counted f xs (λ y at. none y (Contains-later x xs y at)))

module _ (signals : List SignalForm) (s : ℕ) where
  abbrev both : List SignalForm
  both = with_copies signals

  -- no name in the expression is wanted
  abbrev pub Settled : TypedTree → Type 0
  Settled t = (r : ReadForm) → Contains (reads both t) r → IsFalse (is_copy signals r.signal)

  abbrev pub AllSettled : List ℕ → Type 0
  AllSettled names = (t : ℕ) → Contains names t → IsFalse (is_copy signals t)

  pub well_formed_settled : (t : TypedTree) → IsTrue (well_formed signals t) → Settled t
  well_formed_settled t well r at =
      let in_both = Contains-map (λ (x : ReadForm). x.signal) (reads both t) r at in
      let found = Contains-from_map (λ (x : ReadForm). x.signal) (reads signals t) r.signal
      (subst (λ ns. Contains ns r.signal) (names_alike signals both t) in_both) in
      subst (λ k. IsFalse (is_copy signals k)) found.2
      (signal_is_settled signals (found.0).signal
      (ltb-true (found.0).signal (length signals) (reads_signals signals t well found.0 found.1)))

  pub settled_names : (t : TypedTree) → Settled t → AllSettled (names_in both t)
  settled_names t settled k at =
      let found = Contains-from_map (λ (x : ReadForm). x.signal) (reads both t) k at in
      subst (λ x. IsFalse (is_copy signals x)) found.2 (settled found.0 found.1)

  -- ---- settled expressions stay

  pub put_leaves : (pieces : List PieceForm) (right t : TypedTree) → Settled t →
      put_in signals pieces right t ≡ t
  put_leaves pieces right t settled = exchanged_itself both (pieces_put signals pieces right) t
      (λ r at. ap (λ b. cond (b && list_any (λ (piece : PieceForm).
      piece.signal == original signals r.signal) pieces)
      (content (original signals r.signal)
      (put_value signals pieces right (original signals r.signal) r.place)) (name r.signal))
      (settled r at))

  pub close_leaves : (is_register : Bool) (t : TypedTree) → Settled t →
      closed_tree signals is_register t ≡ t
  close_leaves is_register t settled = exchanged_itself both (close signals is_register) t
      (λ r at. ap (λ b. cond (not b) (name r.signal) (cond is_register
      (name (original signals r.signal))
      (content (original signals r.signal)
      (typed (signal_width signals (original signals r.signal))
      (signal_of signals (original signals r.signal)).signed (constant 0)))))
      (settled r at))

  pub steps_stay : (f : TypedTree → TypedTree) (steps : List StepForm)
      → ((step : StepForm) → Contains steps step → f step.condition ≡ step.condition)
      → map (step_with f) steps ≡ steps
  steps_stay f steps same = map_same (step_with f) steps
      (λ step at. ap (λ c. record { place = step.place; condition = c; truth = step.truth })
      (same step at))

  -- ---- a name by itself

  -- the expression is no wanted name by itself
  abbrev pub NotAlone : TypedTree → Type 0
  NotAlone e = (t : ℕ) → name_itself e ≡ Some t → IsFalse (is_copy signals t)

  some_same : (a b : ℕ) → Some a ≡ Some b → a ≡ b
  some_same a b e = cc

  none_some : (t : ℕ) → None ≡ Some t → ⊥
  none_some t e = cc

  bit_alone : (w : ℕ) (signed : Bool) (i : Instead) (p : Place) (index : TypedTree) →
      NotAlone (typed w signed (for_bit i p index))
  bit_alone w signed (name x) p index t is = absurd (none_some t is)
  bit_alone w signed (content x e) p index t is = absurd (none_some t is)

  part_alone : (w : ℕ) (signed : Bool) (i : Instead) (p : Place) (high low : ℕ) →
      NotAlone (typed w signed (for_part i p high low))
  part_alone w signed (name x) p high low t is = absurd (none_some t is)
  part_alone w signed (content x e) p high low t is = absurd (none_some t is)

  settled_alone : (e : TypedTree) → Settled e → NotAlone e
  settled_alone (typed w signed (read x p)) settled t is =
      subst (λ k. IsFalse (is_copy signals k)) (some_same x t is)
      (settled (whole_read both x p) (Contains-head (whole_read both x p) []))
  settled_alone (typed w signed (held x e)) settled t is = settled_alone e settled t is
  settled_alone e settled t is = absurd (none_some t is)

  pub value_alone : (way : TypedTree) → Settled way → (piece : PieceForm) →
      NotAlone (piece_value way piece)
  value_alone way settled piece = by_from (piece.from == 0)
    where
      by_from : (c : Bool) → NotAlone (cond c way (typed (span_of piece.high piece.low) false
          (slice way (piece.from + piece.high - piece.low) piece.from)))
      by_from true = settled_alone way settled
      by_from false = λ t is. cc

  all_alone : (way : TypedTree) → Settled way → (pieces : List PieceForm) (old : TypedTree)
      → IsTrue (some_piece signals both way s pieces) ⊎ NotAlone old
      → NotAlone (fold (with_piece_put signals way s) old pieces)
  all_alone way settled [] old known =
      ⊎_elim (λ some. absurd (false≢true some)) (λ alone. alone) known
  all_alone way settled (piece ∷ pieces) old known =
      all_alone way settled pieces (with_piece_put signals way s old piece)
      (by_tests (piece.signal == s) (is_whole signals piece) known)
    where
      by_tests : (c d : Bool)
          → IsTrue (c || some_piece signals both way s pieces) ⊎ NotAlone old
          → IsTrue (some_piece signals both way s pieces)
          ⊎ NotAlone (cond (not c) old (cond d (piece_value way piece)
          (typed (signal_width signals s) (signal_of signals s).signed
          (mend s old piece.high piece.low (piece_value way piece)))))
      by_tests true true known = inr (value_alone way settled piece)
      by_tests true false known = inr (λ t is. cc)
      by_tests false d known = known

  -- the names that the expression may be by itself
  abbrev pub MayBe : TypedTree → Type 0
  MayBe e = (t : ℕ) → name_itself e ≡ Some t →
      IsFalse (is_copy signals t) ⊎ (t ≡ copy_of signals s)

  -- where the target is put, no wanted name is left by itself
  put_there : (pieces : List PieceForm) (way : TypedTree)
      → IsTrue (some_piece signals both way s pieces)
      → (r : ReadForm) → r.signal ≡ copy_of signals s
      → pieces_put signals pieces way r ≡ content s (put_value signals pieces way s r.place)
  put_there pieces way some r is =
      ap (λ x. cond (is_copy signals x && list_any (λ (piece : PieceForm).
      piece.signal == original signals x) pieces)
      (content (original signals x)
      (put_value signals pieces way (original signals x) r.place)) (name x)) is
      ∙ ap (λ o. cond (is_copy signals (copy_of signals s) && list_any (λ (piece : PieceForm).
      piece.signal == o) pieces)
      (content o (put_value signals pieces way o r.place)) (name (copy_of signals s)))
      (original_of_copy signals s)
      ∙ ap₂ (λ b c. cond (b && c) (content s (put_value signals pieces way s r.place))
      (name (copy_of signals s))) (copy_is_copy signals s) some

  pub put_alone : (pieces : List PieceForm) (way : TypedTree) → Settled way
      → IsTrue (some_piece signals both way s pieces)
      → (e : TypedTree) → MayBe e → NotAlone (put_in signals pieces way e)
  put_alone pieces way settled some (typed w signed (read x p)) may =
      ⊎_elim settled_case copy_case (may x refl)
    where
      r : ReadForm
      r = whole_read both x p

      settled_case : IsFalse (is_copy signals x)
          → NotAlone (put_in signals pieces way (typed w signed (read x p)))
      settled_case h = subst NotAlone
          (sym (put_leaves pieces way (typed w signed (read x p))
          (λ z at. subst (λ (y : ReadForm). IsFalse (is_copy signals y.signal)) (only r z at) h)))
          (λ t is. subst (λ k. IsFalse (is_copy signals k)) (some_same x t is) h)

      copy_case : x ≡ copy_of signals s
          → NotAlone (put_in signals pieces way (typed w signed (read x p)))
      copy_case h = subst (λ (i : Instead). NotAlone (typed w signed (for_whole i p)))
          (sym (put_there pieces way some r h))
          (all_alone way settled pieces (wanted_name signals s p) (inl some))
  put_alone pieces way settled some (typed w signed (held x e)) may =
      put_alone pieces way settled some e may
  put_alone pieces way settled some (typed w signed (read_bit x p i)) may =
      bit_alone w signed (pieces_put signals pieces way (indexed_read both x p i)) p
      (put_in signals pieces way i)
  put_alone pieces way settled some (typed w signed (read_part x p high low)) may =
      part_alone w signed (pieces_put signals pieces way (part_read x p high low)) p high low
  put_alone pieces way settled some e may = λ t is. absurd (none_some t is)

  -- ---- names

  -- the target's wanted name, where it is wanted
  abbrev pub here : Bool → List ℕ
  here wants = cond wants (copy_of signals s ∷ []) []

  module _ (pieces : List PieceForm) (way : TypedTree) where
    abbrev put_for : ℕ → List ℕ
    put_for = put_names signals pieces way

    settled_put : (rest : List ℕ) → AllSettled rest → flat_map put_for rest ≡ rest
    settled_put rest settled = kept_each put_for rest (λ x at.
        ap (λ b. cond (b && some_of signals pieces way (original signals x))
        (fold (piece_names signals both way (original signals x))
        (copy_of signals (original signals x) ∷ []) pieces) (x ∷ [])) (settled x at))

    target_put : IsTrue (some_piece signals both way s pieces)
        → put_for (copy_of signals s)
        ≡ fold (piece_names signals both way s) (copy_of signals s ∷ []) pieces
    target_put some =
        ap (λ o. cond (is_copy signals (copy_of signals s) && some_of signals pieces way o)
        (fold (piece_names signals both way o) (copy_of signals o ∷ []) pieces)
        (copy_of signals s ∷ [])) (original_of_copy signals s)
        ∙ ap₂ (λ b c. cond (b && c)
        (fold (piece_names signals both way s) (copy_of signals s ∷ []) pieces)
        (copy_of signals s ∷ [])) (copy_is_copy signals s) some

    -- the names where the target was wanted once, and the rest is settled
    pub names_put : (e : TypedTree) (rest : List ℕ)
        → IsTrue (some_piece signals both way s pieces)
        → names_in both e ≡ copy_of signals s ∷ rest → AllSettled rest
        → names_in both (put_in signals pieces way e)
        ≡ fold (piece_names signals both way s) (copy_of signals s ∷ []) pieces ++ rest
    names_put e rest some are settled =
        all_names_put signals pieces way e
        ∙ ap (flat_map put_for) are
        ∙ ap₂ (λ a b. a ++ b) (target_put some) (settled_put rest settled)

  -- ---- counts

  module _ (pieces : List PieceForm) where
    -- how many pieces are put for a name
    abbrev count_of : ℕ → ℕ
    count_of x =
        cond (is_copy signals x) (length (pieces_of (original signals x) pieces)) 0

    puts_by_names : (e : TypedTree) →
        puts_in signals pieces e ≡ sum (map count_of (names_in both e))
    puts_by_names e = ap sum (sym (map_map count_of (λ (r : ReadForm). r.signal) (reads both e)))

    settled_count : (names : List ℕ) → AllSettled names → sum (map count_of names) ≡ 0
    settled_count names settled = none_counted count_of names (λ x at.
        ap (λ b. cond b (length (pieces_of (original signals x) pieces)) 0) (settled x at))

    pub none_put : (e : TypedTree) → Settled e → puts_in signals pieces e ≡ 0
    none_put e settled =
        puts_by_names e ∙ settled_count (names_in both e) (settled_names e settled)

    pub times_put_in : (e : TypedTree) (rest : List ℕ)
        → names_in both e ≡ copy_of signals s ∷ rest → AllSettled rest
        → puts_in signals pieces e ≡ length (pieces_of s pieces)
    times_put_in e rest are settled =
        puts_by_names e
        ∙ ap (λ names. sum (map count_of names)) are
        ∙ sum_by-cons (λ k. k) (count_of (copy_of signals s)) (map count_of rest)
        ∙ ap₂ (λ a b. a + b) copy_counts (settled_count rest settled)
        ∙ omega arith
      where
        copy_counts : count_of (copy_of signals s) ≡ length (pieces_of s pieces)
        copy_counts =
            ap (λ o. cond (is_copy signals (copy_of signals s)) (length (pieces_of o pieces)) 0)
            (original_of_copy signals s)
            ∙ ap (λ b. cond b (length (pieces_of s pieces)) 0) (copy_is_copy signals s)

    pub none_in_steps : (steps : List StepForm)
        → ((step : StepForm) → Contains steps step → Settled step.condition)
        → sum (map (λ (step : StepForm). puts_in signals pieces step.condition) steps) ≡ 0
    none_in_steps [] settled = refl
    none_in_steps (step ∷ steps) settled =
        sum_by-cons (λ k. k) (puts_in signals pieces step.condition)
        (map (λ (x : StepForm). puts_in signals pieces x.condition) steps)
        ∙ ap₂ (λ a b. a + b) (none_put step.condition (settled step (Contains-head step steps)))
        (none_in_steps steps (λ x at. settled x (Contains-later step steps x at)))
