-- A list whose signals are taken one by one, each only when nothing that is read for it is left, is
-- a plan once none is left.
use Rattle.std.proofs.Common.{◌≡◌, ℕ, zero, suc, ◌+◌, ◌<◌, ◌≤◌, Bool, true, false, ◌==◌, List, []}
use Rattle.std.proofs.Common.{◌∷◌, ◌⊎◌, length, take, set, ⊎_elim, refl, sym, ap, subst, ◌∙◌, arith}
use Rattle.std.proofs.Common.{get_or-set_same, get_or-set_other, eq-or-lt_of_le}
use Rattle.std.specs.Prelude.{Contains, IsTrue, IsFalse, IfOk, Result, Ok, Err, slice_index}
use Rattle.std.specs.Prelude.{replicate}
use Rattle.std.specs.declared.vec.Vec.{Vec}
use Rattle.std.proofs.lemmas.Bool.{false≢true, eqb-true, eq-eqb}
use Rattle.std.proofs.lemmas.List.{length-set, length-replicate, take_all}
use Rattle.std.proofs.lemmas.List.Elements.{Contains-get_or}
use Rattle.sv_system.proofs.Lists.{Contains-nil}
use Rattle.sv_flat.specs.declared.signals.SigId.{SigId}
use Rattle.sv_flat.specs.Design.{FlatDesign}
use Rattle.sv_flat.specs.Admission.{IsAdmitted}
use Rattle.sv_flat.specs.Loops.{HasReadOrder}
use Rattle.sv_flat.specs.Reads.{is_combinational, reads_for, order}
use Rattle.sv_flat.proofs.Depths.{is_below}
use Rattle.sv_flat.proofs.LeastSets.{either_way}
use Rattle.sv_flat.proofs.Orders.{order_has, order_only}
use Rattle.sv_design.specs.Numbers.{numbers}
use Rattle.sv_graph.specs.Marks.{is_marked}
use Rattle.sv_graph.proofs.QueueFacts.{differs}
use Rattle.sv_sim.specs.Settling.{IsPlan}
use Rattle.sv_sim.proofs.ByDepth.{order_is_plan}
use Rattle.sv_sim.proofs.Fronts.{longer_front, last_in_front, front_or_last}

none_in_front : (xs : List ℕ) (s : ℕ) → Contains (take 0 xs) s → ⊥
none_in_front [] s at = Contains-nil s at
none_in_front (x ∷ xs) s at = Contains-nil s at

last_or_earlier : (i k : ℕ) → i < k + 1 → (i ≡ k) ⊎ (i < k)
last_or_earlier i k less = eq-or-lt_of_le (omega arith)

-- ---- tables

none_left : (n s : ℕ) → is_marked (replicate n false) s ≡ false
none_left zero s = refl
none_left (suc n) zero = refl
none_left (suc n) (suc s) = none_left n s

module _ (left : List Bool) (v : ℕ) (answer : Bool) where
  pub left_there : v < length left → is_marked (set left v answer) v ≡ answer
  left_there inside = get_or-set_same left v answer false inside

  pub left_elsewhere : (s : ℕ) → IsFalse (v == s) →
      is_marked (set left v answer) s ≡ is_marked left s
  left_elsewhere s other = get_or-set_other left v s answer false (differs v s other)

-- ---- all combinational signals

module _ (design : FlatDesign) where
  -- the first so many of the order are left
  pub record AreLeft (left : List Bool) (k : ℕ) : Type 0 where
    pub size : length left ≡ length design.signals
    pub only : (s : ℕ) → IsTrue (is_marked left s) → IsTrue (is_combinational design s)
    pub all : (s : ℕ) → Contains (take k (order design)) s → IsTrue (is_marked left s)

  pub none_entered : (left : List Bool) (n : ℕ) → left ≡ replicate n false
      → n ≡ length design.signals → AreLeft left 0
  none_entered left n is count = record {
    size = ap length is ∙ length-replicate n false ∙ count;
    only = λ s there. absurd (false≢true
        (sym (none_left n s) ∙ sym (ap (λ ts. is_marked ts s) is) ∙ there));
    all = λ s at. absurd (none_in_front (order design) s at);
  }

  module _ (ordered : HasReadOrder design) (left : List Bool) (k : ℕ) (before : AreLeft left k)
      (inside : k < length (order design)) where
    abbrev entered : ℕ
    entered = slice_index (order design) k

    entered_comb : IsTrue (is_combinational design entered)
    entered_comb = order_only design ordered entered (Contains-get_or (order design) k 0 inside)

    entered_within : entered < length left
    entered_within =
        subst (λ n. entered < n) (sym before.size) (is_below design entered entered_comb)

    -- one more is left
    pub one_entered : AreLeft (set left entered true) (k + 1)
    one_entered = record {
      size = length-set left entered true ∙ before.size;
      only = λ s there. ⊎_elim
          (λ same. subst (λ z. IsTrue (is_combinational design z)) (eqb-true entered s same)
          entered_comb)
          (λ other. before.only s (sym (left_elsewhere left entered true s other) ∙ there))
          (either_way (entered == s));
      all = λ s at. ⊎_elim
          (λ same. subst (λ z. IsTrue (is_marked (set left entered true) z))
          (eqb-true entered s same) (left_there left entered true entered_within))
          (λ other. ⊎_elim
          (λ earlier. left_elsewhere left entered true s other ∙ before.all s earlier)
          (λ last. absurd (false≢true (sym other ∙ eq-eqb entered s last)))
          (front_or_last (order design) k inside s at))
          (either_way (entered == s));
    }

  pub all_entered : HasReadOrder design → (left : List Bool) (k : ℕ) → AreLeft left k
      → length (order design) ≤ k → (s : ℕ) → IsTrue (is_combinational design s)
      → IsTrue (is_marked left s)
  all_entered ordered left k are whole s comb = are.all s
      (subst (λ zs. Contains zs s) (sym (take_all k (order design) whole))
      (order_has design ordered s comb))

-- ---- one after the other

module _ (design : FlatDesign) where
  -- the first so many of the list are taken
  pub record AreTaken (list : List ℕ) (left : List Bool) (k : ℕ) : Type 0 where
    pub size : length left ≡ length design.signals
    pub lasting : (s : ℕ) → IsTrue (is_marked left s) → IsTrue (is_combinational design s)
    pub taken : (s : ℕ) → IsTrue (is_combinational design s) → IsFalse (is_marked left s)
        → Contains (take k list) s
    pub only : (s : ℕ) → Contains (take k list) s → IsTrue (is_combinational design s)
    pub behind : (i : ℕ) → i < k → (r : ℕ) → IsTrue (is_combinational design r)
        → Contains (reads_for design (slice_index list i)) r
        → Contains (take i list) r

  pub none_taken : (list : List ℕ) (left : List Bool) → length left ≡ length design.signals
      → ((s : ℕ) → IsTrue (is_marked left s) → IsTrue (is_combinational design s))
      → ((s : ℕ) → IsTrue (is_combinational design s) → IsTrue (is_marked left s))
      → AreTaken list left 0
  none_taken list left size lasting all = record {
    size = size;
    lasting = lasting;
    taken = λ s comb none. absurd (false≢true (sym none ∙ all s comb));
    only = λ s at. absurd (none_in_front list s at);
    behind = λ i less r comb read. absurd (omega arith);
  }

  module _ (list : List ℕ) (left : List Bool) (k : ℕ) (before : AreTaken list left k)
      (inside : k < length list) where
    abbrev v : ℕ
    v = slice_index list k

    abbrev new : List Bool
    new = set left v false

    still_left : (s : ℕ) → IsTrue (is_marked new s) → v < length left → IsTrue (is_marked left s)
    still_left s there within = ⊎_elim
        (λ same. absurd (false≢true
        (sym (left_there left v false within)
        ∙ ap (is_marked new) (eqb-true v s same) ∙ there)))
        (λ other. sym (left_elsewhere left v false s other) ∙ there)
        (either_way (v == s))

    taken_now : (s : ℕ) → IsTrue (is_combinational design s) → IsFalse (is_marked new s)
        → Contains (take (k + 1) list) s
    taken_now s comb none = ⊎_elim
        (λ same. subst (Contains (take (k + 1) list)) (eqb-true v s same)
        (last_in_front list k inside))
        (λ other. longer_front list k (k + 1) s (omega arith)
        (before.taken s comb (sym (left_elsewhere left v false s other) ∙ none)))
        (either_way (v == s))

    v_taken : v < length left → IsTrue (is_marked left v)
        → ((r : ℕ) → Contains (reads_for design v) r → IsFalse (is_marked left r))
        → AreTaken list new (k + 1)
    v_taken within is reads = record {
      size = length-set left v false ∙ before.size;
      lasting = λ s there. before.lasting s (still_left s there within);
      taken = taken_now;
      only = λ s at. ⊎_elim
          (λ earlier. before.only s earlier)
          (λ same. subst (λ z. IsTrue (is_combinational design z)) same (before.lasting v is))
          (front_or_last list k inside s at);
      behind = λ i less r comb read. ⊎_elim
          (λ last. subst (λ j. Contains (take j list) r) (sym last)
          (before.taken r comb (reads r
          (subst (λ j. Contains (reads_for design (slice_index list j)) r) last read))))
          (λ earlier. before.behind i earlier r comb read)
          (last_or_earlier i k less);
    }

    -- one more is taken, which the table has left as it is shown
    pub one_taken : (shown : List Bool) (s : ℕ) → shown ≡ left → v ≡ s → s < length shown
        → IsTrue (is_marked shown s)
        → ((r : ℕ) → Contains (reads_for design s) r → IsFalse (is_marked shown r))
        → AreTaken list (set left s false) (k + 1)
    one_taken shown s is at within there reads =
        subst (λ z. AreTaken list (set left z false) (k + 1)) at
        (v_taken
        (subst (λ z. z < length left) (sym at) (subst (λ ts. s < length ts) is within))
        (subst (λ z. IsTrue (is_marked left z)) (sym at)
        (subst (λ ts. IsTrue (is_marked ts s)) is there))
        (λ r r_at. subst (λ ts. IsFalse (is_marked ts r)) is
        (reads r (subst (λ z. Contains (reads_for design z) r) at r_at))))

  -- once none is left, the list is a plan
  pub all_taken : (list : List ℕ) (left : List Bool) (k : ℕ) → AreTaken list left k
      → length list ≤ k → ((s : ℕ) → IsFalse (is_marked left s)) → IsPlan design list
  all_taken list left k taken whole none = record {
    all = λ s comb. subst (λ zs. Contains zs s) (take_all k list whole)
        (taken.taken s comb (none s));
    only = λ s at. taken.only s
        (subst (λ zs. Contains zs s) (sym (take_all k list whole)) at);
    behind = λ i inside r comb read. taken.behind i (omega arith) r comb read;
  }

-- a copy of the order by depth is a plan
pub copied_order : {A E : Type 0} (design : FlatDesign) → IsAdmitted design → (ss : List SigId)
    → numbers ss ≡ order design → (r : Result (Vec SigId A) E) → IfOk r (λ v. v.items ≡ ss)
    → IfOk r (λ v. IsPlan design (numbers v.items))
copied_order design admitted ss is (Ok v) same =
    subst (IsPlan design) (sym (ap numbers same ∙ is)) (order_is_plan design admitted)
copied_order design admitted ss is (Err e) same = tt
