-- The first of all circles is found by going through the signals that circles begin at.
use Rattle.std.proofs.Common.{◌≡◌, ⊎_elim, ℕ, ◌+◌, ◌<◌, ◌≤◌, nat_lt, List, ◌∷◌, length}
use Rattle.std.proofs.Common.{get_or, Option, Some, None, Vec, Global, sym, ap, ap₂, subst, ◌∙◌}
use Rattle.std.proofs.Common.{arith, Bool, ◌&&◌}
use Rattle.std.specs.Prelude.{IsTrue, IsFalse}
use Rattle.std.proofs.lemmas.Bool.{false≢true}
use Rattle.sv_num.specs.declared.faults.Place.{Place}
use Rattle.sv_flat.specs.declared.signals.SigId.{SigId}
use Rattle.sv_flat.specs.Breaches.{Breach, then_by, comes_before, first_signal}
use Rattle.sv_flat.specs.Design.{FlatDesign}
use Rattle.sv_flat.specs.Loops.{is_circle, loop_breach, IsLoop}
use Rattle.sv_flat.specs.Processes.{declared_at}
use Rattle.sv_flat.proofs.Depths.{is_below}
use Rattle.sv_design.specs.Circles.{circle_breach, FindsCircle, IsCircleFrom, FindsCircleBelow}
use Rattle.sv_design.specs.Circles.{precedes}
use Rattle.sv_graph.specs.Marks.{is_marked}
use Rattle.sv_design.specs.Orders.{HasBegins}
use Rattle.sv_design.specs.Orders.{AreReads}
use Rattle.sv_design.specs.declared.orders.SignalReads.{SignalReads}
use Rattle.sv_flat.proofs.AdmittedFacts.{and_true}
use Rattle.sv_flat.proofs.LeastSets.{either_way}
use Rattle.sv_rules.specs.First.{breach_of, found_before}
use Rattle.sv_design.specs.Numbers.{numbers}
use Rattle.sv_rules.specs.declared.found.Found.{Found}
use Rattle.sv_design.specs.declared.loops.Circle.{Circle}
use Rattle.sv_design.proofs.CircleFacts.{circle_is_combinational, no_candidate}
use Rattle.sv_rules.proofs.Firsts.{one_rule, itself, not_before}
use Rattle.sv_graph.proofs.SearchFacts.{below_or_at}

-- a circle comes where its first signal does
module _ (circle : Circle)
    (begins : first_signal (circle_breach circle) ≡ circle.first.signal.0) where
  place_on_right : (o : Breach) →
      comes_before o (circle_breach circle) ≡ comes_before o (breach_of 607 circle.first)
  place_on_right o =
      ap (λ k. then_by o.number 607
      (then_by o.place.line circle.first.place.line
      (then_by o.place.column circle.first.place.column (nat_lt (first_signal o) k)))) begins

  place_on_left : (o : Breach) →
      comes_before (circle_breach circle) o ≡ comes_before (breach_of 607 circle.first) o
  place_on_left o =
      ap (λ k. then_by 607 o.number
      (then_by circle.first.place.line o.place.line
      (then_by circle.first.place.column o.place.column (nat_lt k (first_signal o))))) begins

-- no circle begins at a signal that a table of begins or that of combinational signals lacks
pub not_begun : (design : FlatDesign) (reads : SignalReads) (are : AreReads design reads)
    (begins : List Bool) → HasBegins design begins → (s : ℕ) → s < length reads.combs.items
    → IsFalse (is_marked begins s && is_marked reads.combs.items s)
    → (signals : List ℕ) → IsTrue (is_circle design (s ∷ signals)) → ⊥
not_begun design reads are begins has s below out signals circle = ⊎_elim
    (λ comb. false≢true (sym out
    ∙ and_true (is_marked begins s) (is_marked reads.combs.items s) (has s signals circle) comb))
    (λ other. no_candidate design reads are s below other signals circle)
    (either_way (is_marked reads.combs.items s))

module _ (design : FlatDesign) where
  -- the circle's first signal, as the breach names it
  begins_at : (b : Breach) (loop : IsLoop design b) → first_signal b ≡ loop.0
  begins_at b loop = ap first_signal loop.3

  below_all : (b : Breach) → IsLoop design b → first_signal b < length design.signals
  below_all b loop =
      subst (λ k. k < length design.signals) (sym (begins_at b loop))
      (is_below design loop.0 (circle_is_combinational design loop.0 loop.1 loop.2))

  -- a circle from a signal on stands where the signal does
  stands : (here : Found) → here.place ≡ declared_at design here.signal.0 → (b : Breach)
      → IsLoop design b → here.signal.0 ≡ first_signal b → (x : Found)
      → comes_before b (breach_of 607 x) ≡ found_before here x
  stands here placed b loop same x =
      let target = breach_of 607 x in
      let signals = loop.1 in
      let at_place : Place → Breach = λ place.
      record { number = 607; place = place; signals = here.signal.0 ∷ signals } in
      ap (λ (z : Breach). comes_before z target) loop.3
      ∙ ap (λ k. comes_before (loop_breach design k signals) target)
      (sym (same ∙ begins_at b loop))
      ∙ ap (λ place. comes_before (at_place place) target) (sym placed)
      ∙ one_rule 607 here x

  -- no circle begins at the limit
  pub none_here : (limit : ℕ) (circle : Option Circle)
      → ((signals : List ℕ) → IsTrue (is_circle design (limit ∷ signals)) → ⊥)
      → FindsCircleBelow design limit circle → FindsCircleBelow design (limit + 1) circle
  none_here limit None none so_far = λ b loop lt. ⊎_elim
      (λ l. so_far b loop l)
      (λ e. none loop.1 (subst (λ k. IsTrue (is_circle design (k ∷ loop.1)))
      (sym (e ∙ begins_at b loop)) loop.2))
      (below_or_at (first_signal b) limit lt)
  none_here limit (Some circle) none so_far = record {
    is_loop = so_far.is_loop;
    begins = so_far.begins;
    before = λ o loop lt. ⊎_elim
        (λ l. so_far.before o loop l)
        (λ e. absurd (none loop.1 (subst (λ k. IsTrue (is_circle design (k ∷ loop.1)))
        (sym (e ∙ begins_at o loop)) loop.2)))
        (below_or_at (first_signal o) limit lt);
  }

  module _ (here : Found) (placed : here.place ≡ declared_at design here.signal.0) where
    -- circles that begin here come later
    pub later_here : (circle : Option Circle) → IsFalse (precedes here circle)
        → FindsCircleBelow design here.signal.0 circle
        → FindsCircleBelow design (here.signal.0 + 1) circle
    later_here None later so_far = absurd (false≢true (sym later))
    later_here (Some circle) later so_far = record {
      is_loop = so_far.is_loop;
      begins = so_far.begins;
      before = λ o loop lt. ⊎_elim
          (λ l. so_far.before o loop l)
          (λ e. place_on_right circle so_far.begins o
          ∙ stands here placed o loop e circle.first ∙ later)
          (below_or_at (first_signal o) here.signal.0 lt);
    }

    -- a circle that begins here comes before the one that was found so far
    module _ (signals : Vec SigId Global)
        (found : IsCircleFrom design here.signal.0 (numbers signals.items)) where
      new_begins : get_or (numbers signals.items) 0 0 ≡ here.signal.0
      new_begins = ap (λ (ss : List ℕ). get_or ss 0 0) found.1

      new_is_loop : IsLoop design
          (record { number = 607; place = here.place; signals = numbers signals.items })
      new_is_loop = (
        here.signal.0,
        found.0,
        found.2,
        let made : Place → List ℕ → Breach = λ place ss.
            record { number = 607; place = place; signals = ss } in
            ap₂ made placed found.1,
      )

      earlier : (old : Option Circle) → IsTrue (precedes here old)
          → FindsCircleBelow design here.signal.0 old → (o : Breach) → IsLoop design o
          → first_signal o < here.signal.0
          → IsFalse (comes_before o
          (record { number = 607; place = here.place; signals = numbers signals.items }))
      earlier None first so_far o loop lt = absurd (so_far o loop lt)
      earlier (Some circle) first so_far o loop lt =
          not_before o
          (record { number = 607; place = here.place; signals = numbers signals.items })
          (circle_breach circle) (so_far.before o loop lt)
          (place_on_right circle so_far.begins
          (record { number = 607; place = here.place; signals = numbers signals.items })
          ∙ place_on_left (record { first = here; signals = signals }) new_begins
          (breach_of 607 circle.first)
          ∙ one_rule 607 here circle.first ∙ first)

      -- a circle that begins here may be found before any signal was looked at
      pub starts_here : FindsCircleBelow design 0
          (Some (record { first = here; signals = signals }))
      starts_here = record {
        is_loop = new_is_loop;
        begins = new_begins;
        before = λ o loop lt. absurd (omega arith);
      }

      pub first_here : (old : Option Circle) → IsTrue (precedes here old)
          → FindsCircleBelow design here.signal.0 old
          → FindsCircleBelow design (here.signal.0 + 1)
          (Some (record { first = here; signals = signals }))
      first_here old first so_far = record {
        is_loop = new_is_loop;
        begins = new_begins;
        before = λ o loop lt. ⊎_elim
            (λ l. earlier old first so_far o loop l)
            (λ e. place_on_right (record { first = here; signals = signals }) new_begins o
            ∙ stands here placed o loop e here ∙ itself here)
            (below_or_at (first_signal o) here.signal.0 lt);
      }

  -- all circles begin below the number of signals
  pub all_passed : (limit : ℕ) (circle : Option Circle) → length design.signals ≤ limit
      → FindsCircleBelow design limit circle → FindsCircle design circle
  all_passed limit None all so_far = λ b loop.
      let lt = below_all b loop in so_far b loop (omega arith)
  all_passed limit (Some circle) all so_far = record {
    is_loop = so_far.is_loop;
    before = λ o loop. let lt = below_all o loop in so_far.before o loop (omega arith);
  }
