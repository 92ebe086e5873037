use Rattle.std.proofs.Common.{◌≡◌, ◌<◌, ℕ, List, [], ◌∷◌, ◌++◌, length, get_or, sym, ap, subst, ◌∙◌}
use Rattle.std.proofs.Common.{arith}
use Rattle.std.proofs.lemmas.List.{append_assoc, append-nil, get_or-map, map_push}
use Rattle.std.proofs.Math.ListN.{length-map}
use Rattle.sv_flat.specs.declared.signals.SigId.{SigId}
use Rattle.sv_graph.specs.declared.searches.Search.{Search}
use Rattle.sv_graph.specs.declared.searches.Visit.{Visit}
use Rattle.sv_graph.specs.Numbers.{numbers}
use Rattle.sv_graph.specs.Searches.{found_by, led_by, IsWayBack}
use Rattle.sv_graph.proofs.searches.Search.add_way_back.Goals as goal

-- the visit at a place
module _ (search : Search) (at : ℕ) (visit : Visit) (inside : at < length (found_by search))
    (is : visit ≡ get_or search.visits.items at visit) where
  in_steps : at < length search.visits.items
  in_steps = subst (λ n.
      at < n) (length-map search.visits.items (λ (s : Visit). s.signal.0)) inside

  signal_is : get_or (found_by search) at 0 ≡ visit.signal.0
  signal_is =
      get_or-map (λ (s : Visit). s.signal.0) search.visits.items at visit 0 in_steps
      ∙ sym (ap (λ (s : Visit). s.signal.0) is)

  from_is : get_or (led_by search) at 0 ≡ visit.from
  from_is =
      get_or-map (λ (s : Visit). s.from) search.visits.items at visit 0 in_steps
      ∙ sym (ap (λ (s : Visit). s.from) is)

pub loop-at-init : goal.loop-at-init
loop-at-init c = (
  omega arith,
  ([], sym (append-nil (numbers c.args.way.now.items)), λ rest back. back),
)

pub loop-at-smaller : goal.loop-at-smaller
loop-at-smaller c =
    let search = c.args.self.now in
    let at = c.loop-at.at in
    let inside : at < length (found_by search) =
    (let le = c.loop-at.invariant.0 in let lt = c.requires.place in omega arith) in
    subst (λ k. k < at) (from_is search at c.index-visit.result.now inside c.index-visit.ensures)
    (c.requires.falls at c.loop-at-test.true inside)

pub loop-at-preserved : goal.loop-at-preserved
loop-at-preserved c =
    let search = c.args.self.now in
    let at = c.loop-at.at in
    let visit = c.index-visit.result.now in
    let le = c.loop-at.invariant.0 in
    let inside : at < length (found_by search) = (let lt = c.requires.place in omega arith) in
    let from = from_is search at visit inside c.index-visit.ensures in
    let lower = subst (λ k. k < at) from (c.requires.falls at c.loop-at-test.true inside) in
    let done = c.loop-at.invariant.1.0 in
    let old = numbers c.args.way.now.items in
    let s = visit.signal.0 in (
      omega arith,
      (
        done ++ s ∷ [],
        ap numbers c.in_ok-push.ensures.items
            ∙ map_push (λ (z : SigId). z.0) c.loop-at.way.items visit.signal
            ∙ ap (λ (xs : List ℕ). xs ++ s ∷ []) c.loop-at.invariant.1.1
            ∙ append_assoc old done (s ∷ []),
        λ rest back.
            subst (IsWayBack search c.args.place) (sym (append_assoc done (s ∷ []) rest))
            (c.loop-at.invariant.1.2 (s ∷ rest) (
              c.loop-at-test.true,
              signal_is search at visit inside c.index-visit.ensures,
              subst (λ k. IsWayBack search k rest) (sym from) back,
            )),
      ),
    )

pub returns : goal.returns
returns c =
    let done = c.loop-at.invariant.1.0 in (
      done,
      c.loop-at.invariant.1.1,
      subst (IsWayBack c.args.self.now c.args.place) (append-nil done)
          (c.loop-at.invariant.1.2 [] (let le = c.loop-at-test.false in omega arith)),
    )
