-- One pass from the greatest depth down marks a cone: what is read for a combinational signal, and
-- is combinational itself, stands before it in the order by depth.
use Rattle.std.proofs.Common.{◌≡◌, ℕ, zero, suc, ◌+◌, ◌<◌, Bool, ◌||◌, ◌&&◌, List, []}
use Rattle.std.proofs.Common.{◌∷◌, length, take, get_or, refl, sym, ap, subst, ◌∙◌, ◌⊎◌, inl, inr, ⊎_elim, arith}
use Rattle.std.specs.Prelude.{Contains, IsTrue, slice_index}
use Rattle.std.specs.List.{list_any}
use Rattle.std.proofs.lemmas.Bool.{false≢true, or_left, or_right}
use Rattle.std.proofs.Math.ListN.{length-map}
use Rattle.std.proofs.lemmas.List.{take_all}
use Rattle.std.proofs.lemmas.List.Elements.{Contains-get_or}
use Rattle.sv_system.proofs.Lists.{Contains-nil}
use Rattle.sv_flat.specs.declared.designs.Flat.{Flat}
use Rattle.sv_flat.specs.declared.signals.SigId.{SigId}
use Rattle.sv_flat.specs.Design.{FlatDesign}
use Rattle.sv_flat.specs.Reads.{is_combinational, is_read_for, reads_for, order}
use Rattle.sv_flat.specs.Sets.{holds, those, with_all_brought, least_set}
use Rattle.sv_flat.specs.Views.{design_of}
use Rattle.sv_flat.specs.Admission.{IsAdmitted}
use Rattle.sv_flat.proofs.AdmittedFacts.{and_true}
use Rattle.sv_flat.proofs.Depths.{first_of, second_of, is_below}
use Rattle.sv_flat.proofs.LeastSets.{or_cases, either_way, in_those, those_pass, those_below}
use Rattle.sv_flat.proofs.LeastSets.{least_set_least, least_set_closed, least_set_has}
use Rattle.sv_flat.proofs.LeastSets.{Contains-from_holds, holds-from_Contains}
use Rattle.sv_flat.proofs.Orders.{order_only}
use Rattle.sv_design.specs.Designs.{IsDesign}
use Rattle.sv_graph.specs.Marks.{is_marked, Marks, IsTable}
use Rattle.sv_design.specs.Numbers.{numbers}
use Rattle.sv_graph.proofs.QueueFacts.{number_at}
use Rattle.sv_sim.specs.Settling.{IsPlan}
use Rattle.sv_sim.proofs.ByDepth.{order_is_plan}
use Rattle.sv_sim.proofs.Fronts.{front_or_last}
use Rattle.sv_encoding.specs.Cones.{brings_reads, with_reads}
use Rattle.sv_blast.specs.NamedMarks.{AreBelow}
use Rattle.sv_blast.proofs.MarkTables.{alike, those_same, holds_those, no_signal}
use Rattle.sv_blast.proofs.ConeStarts.{count_is}

-- the least set as a list is that of its members
pub least_listed : (n : ℕ) (brings : ℕ → ℕ → Bool) (starts : List ℕ) → AreBelow n starts →
    those n (holds (least_set n brings starts)) ≡ least_set n brings starts
least_listed zero brings [] below = refl
least_listed zero brings (s ∷ starts) below =
    absurd (let low = below s (0, omega arith, refl) in omega arith)
least_listed (suc n) brings starts below =
    let before = with_all_brought (suc n) brings starts n in
    let test = λ (k : ℕ). holds before k || list_any (λ m. brings m k) before in
    those_same (suc n) (holds (those (suc n) test)) test (λ k low. holds_those (suc n) test k low)

-- The marks have the first signals, and nothing but what these bring along, and what is read for
-- each marked combinational signal but those at the front of the order.
pub record IsClosedBut (design : FlatDesign) (starts : List ℕ) (left : ℕ) (marks : ℕ → Bool) :
    Type 0 where
  pub has : (s : ℕ) → Contains starts s → IsTrue (marks s)
  pub only : (s : ℕ) → s < length design.signals → IsTrue (marks s) →
      Contains (with_reads design starts) s
  pub closed : (m t : ℕ) → IsTrue (is_combinational design m) →
      (Contains (take left (order design)) m → ⊥) → IsTrue (marks m) →
      Contains (reads_for design m) t → IsTrue (marks t)

module _ (design : FlatDesign) (admitted : IsAdmitted design) (starts : List ℕ)
    (below : AreBelow (length design.signals) starts) where
  abbrev size : ℕ
  size = length design.signals

  plan : IsPlan design (order design)
  plan = order_is_plan design admitted

  -- at first nothing but the front is asked
  pub none_asked : (marks : ℕ → Bool) (left : ℕ) → left ≡ length (order design) →
      ((s : ℕ) → s < size → marks s ≡ holds starts s) → IsClosedBut design starts left marks
  none_asked marks left all is = record {
    has = λ s at. is s (below s at) ∙ holds-from_Contains starts s at;
    only = λ s low marked.
        least_set_has size (brings_reads design) starts below s
        (Contains-from_holds starts s (sym (is s low) ∙ marked));
    closed = λ m t comb behind marked reads.
        absurd (behind (subst (λ k. Contains (take k (order design)) m) (sym all)
        (subst (λ xs. Contains xs m) (sym (take_all (length (order design)) (order design) (omega arith)))
        (plan.all m comb))));
  }

  -- one more signal brings along what is read for it
  module _ (left : ℕ) (inside : left < length (order design)) (old new : ℕ → Bool)
      (step : (s : ℕ) → s < size → new s ≡ (old s || (old (slice_index (order design) left)
      && holds (reads_for design (slice_index (order design) left)) s)))
      (before : IsClosedBut design starts (left + 1) old) where
    abbrev v : ℕ
    v = slice_index (order design) left

    comb_v : IsTrue (is_combinational design v)
    comb_v = plan.only v (Contains-get_or (order design) left 0 inside)

    low_read : (m t : ℕ) → Contains (reads_for design m) t → t < size
    low_read m t at = those_below size (is_read_for design m) t at

    stays : (s : ℕ) → s < size → IsTrue (old s) → IsTrue (new s)
    stays s low marked =
        step s low ∙ or_left (old s) (old v && holds (reads_for design v) s) marked

    came : (s : ℕ) → s < size → IsTrue (new s) →
        IsTrue (old s) ⊎ (IsTrue (old v) × Contains (reads_for design v) s)
    came s low marked = ⊎_elim
        (λ was. inl was)
        (λ brought. inr (
          first_of (old v) (holds (reads_for design v) s) brought,
          Contains-from_holds (reads_for design v) s
              (second_of (old v) (holds (reads_for design v) s) brought),
        ))
        (or_cases (old s) (old v && holds (reads_for design v) s) (sym (step s low) ∙ marked))

    brings : (t : ℕ) → IsTrue (old v) → Contains (reads_for design v) t → IsTrue (new t)
    brings t marked at =
        step t (low_read v t at)
        ∙ or_right (old t) (old v && holds (reads_for design v) t)
        (and_true (old v) (holds (reads_for design v) t) marked
        (holds-from_Contains (reads_for design v) t at))

    pub one_asked : IsClosedBut design starts left new
    one_asked = record {
      has = λ s at. stays s (below s at) (before.has s at);
      only = λ s low marked. ⊎_elim
          (λ was. before.only s low was)
          (λ brought.
          least_set_closed size (brings_reads design) starts below v s
          (before.only v (is_below design v comb_v) brought.0)
          (and_true (is_combinational design v) (is_read_for design v s) comb_v
          (those_pass size (is_read_for design v) s brought.1)) low)
          (came s low marked);
      closed = λ m t comb behind marked at.
          let m_low = is_below design m comb in
          ⊎_elim
          (λ was. marked_before m t comb behind was at)
          (λ brought. absurd (behind (plan.behind left inside m comb brought.1)))
          (came m m_low marked);
    }
      where
        marked_before : (m t : ℕ) → IsTrue (is_combinational design m) →
            (Contains (take left (order design)) m → ⊥) → IsTrue (old m) →
            Contains (reads_for design m) t → IsTrue (new t)
        marked_before m t comb behind was at =
            let front = take (left + 1) (order design) in
            ⊎_elim
            (λ held. ⊎_elim
            (λ earlier. absurd (behind earlier))
            (λ is. brings t (subst (λ z. IsTrue (old z)) (sym is) was)
            (subst (λ z. Contains (reads_for design z) t) (sym is) at))
            (front_or_last (order design) left inside m (Contains-from_holds front m held)))
            (λ out. stays t (low_read m t at)
            (before.closed m t comb
            (λ front_at. false≢true (sym out ∙ holds-from_Contains front m front_at)) was at))
            (either_way (holds front m))

  -- at last nothing is left out
  pub all_asked : (marks : ℕ → Bool) → IsClosedBut design starts 0 marks → (s : ℕ) → s < size →
      marks s ≡ holds (with_reads design starts) s
  all_asked marks done s low = alike (marks s) (holds (with_reads design starts) s)
      (λ marked. holds-from_Contains (with_reads design starts) s (done.only s low marked))
      (λ held.
      least_set_least size (brings_reads design) starts below (λ z. IsTrue (marks z)) done.has
      (λ m k marked brings k_low.
      done.closed m k (first_of (is_combinational design m) (is_read_for design m k) brings)
      (λ front. Contains-nil m front) marked
      (in_those size (is_read_for design m) k k_low
      (second_of (is_combinational design m) (is_read_for design m k) brings)))
      s (Contains-from_holds (with_reads design starts) s held))

-- ---- the pass over the signals of a design

module _ (flat : Flat) where
  abbrev design : FlatDesign
  design = design_of flat

  abbrev count : ℕ
  count = length flat.signals.items

  among : (starts : List ℕ) → AreBelow count starts → AreBelow (length design.signals) starts
  among starts below = subst (λ n. AreBelow n starts) (sym (count_is flat)) below

  low : (s : ℕ) → s < length design.signals → s < count
  low s below = subst (λ n. s < n) (count_is flat) below

  -- the list of a table that marks a cone
  pub cone_listed : (starts : List ℕ) → AreBelow count starts → (table : List Bool) →
      IsTable count table (holds (with_reads design starts)) →
      those (length table) (is_marked table) ≡ with_reads design starts
  cone_listed starts below table marks =
      ap (λ n. those n (is_marked table)) (marks.0 ∙ sym (count_is flat))
      ∙ those_same (length design.signals) (is_marked table) (holds (with_reads design starts))
      (λ s s_low. marks.1 s (low s s_low))
      ∙ least_listed (length design.signals) (brings_reads design) starts (among starts below)

module _ (flat : Flat) (known : IsDesign (design_of flat)) (ss : List SigId)
    (is : numbers ss ≡ order (design_of flat)) where
  as_many : length ss ≡ length (order (design flat))
  as_many = sym (length-map ss (λ (s : SigId). s.0)) ∙ ap length is

  at_order : (i : ℕ) → i < length ss → (get_or ss i no_signal).0 ≡ slice_index (order (design flat)) i
  at_order i inside = sym (number_at ss i no_signal inside) ∙ ap (λ ks. slice_index ks i) is

  pub order_below : (i : ℕ) → i < length ss → (get_or ss i no_signal).0 < count flat
  order_below i inside =
      let inside_order : i < length (order (design flat)) = subst (λ n. i < n) as_many inside in
      let v = slice_index (order (design flat)) i in
      subst (λ z. z < count flat) (sym (at_order i inside))
      (low flat v (is_below (design flat) v
      (order_only (design flat) known.is_admitted.ordered v
      (Contains-get_or (order (design flat)) i 0 inside_order))))

  module _ (starts : List ℕ) (below : AreBelow (count flat) starts) where
    pub pass_begins : (table : List Bool) → IsTable (count flat) table (holds starts) →
        IsClosedBut (design flat) starts (length ss) (is_marked table)
    pass_begins table marks =
        none_asked (design flat) known.is_admitted starts (among flat starts below) (is_marked table)
        (length ss) as_many (λ s s_low. marks.1 s (low flat s s_low))

    pub pass_goes_on : (old new : List Bool) (i : ℕ) → i < length ss → length old ≡ count flat →
        Marks old new (λ s. is_marked old (get_or ss i no_signal).0
        && holds (reads_for (design flat) (get_or ss i no_signal).0) s) →
        IsClosedBut (design flat) starts (i + 1) (is_marked old) →
        IsClosedBut (design flat) starts i (is_marked new)
    pass_goes_on old new i inside size marks before =
        one_asked (design flat) known.is_admitted starts (among flat starts below) i
        (subst (λ n. i < n) as_many inside) (is_marked old) (is_marked new)
        (λ s s_low.
        marks s (subst (λ n. s < n) (sym size) (low flat s s_low))
        ∙ ap (λ v. is_marked old s || (is_marked old v && holds (reads_for (design flat) v) s))
        (at_order i inside))
        before

    pub pass_ends : (table : List Bool) → length table ≡ count flat →
        IsClosedBut (design flat) starts 0 (is_marked table) →
        IsTable (count flat) table (holds (with_reads (design flat) starts))
    pass_ends table size done = (
      size,
      λ s s_low. all_asked (design flat) known.is_admitted starts (among flat starts below) (is_marked table)
          done s (subst (λ n. s < n) (sym (count_is flat)) s_low),
    )
