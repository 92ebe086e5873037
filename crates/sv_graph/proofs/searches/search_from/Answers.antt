use Rattle.std.proofs.Common.{◌≡◌, ◌<◌, ℕ, Bool, false, ◌&&◌, nat_le, get_or, refl, sym, subst}
use Rattle.std.proofs.Common.{arith}
use Rattle.std.proofs.lemmas.List.{take_all}
use Rattle.std.proofs.Math.ListN.{length-map}
use Rattle.sv_system.proofs.Lists.{Contains-nil}
use Rattle.sv_graph.specs.declared.graphs.Graph.{Graph}
use Rattle.sv_graph.specs.declared.searches.Visit.{Visit}
use Rattle.sv_graph.specs.Graphs.{size, has_edge}
use Rattle.sv_graph.specs.Numbers.{numbers}
use Rattle.sv_graph.specs.Searches.{SearchesBy}
use Rattle.sv_graph.proofs.SearchFacts.{Begins, begin_more, search_end, not_full}
use Rattle.sv_graph.proofs.SignalLists.{no_signal, number_among}
use Rattle.sv_graph.proofs.searches.search_from.Goals as goal

abbrev edges : Graph → (least : ℕ) → ℕ → ℕ → Bool
edges graph least a b = has_edge graph a b && nat_le least b

pub loop-start-init : goal.loop-start-init
loop-start-init c = λ brings. (
  subst (λ n. SearchesBy n brings (numbers c.args.starts.now) 0 c.in_ok-search.search)
      (let same : c.len.result ≡ size c.args.graph.now = omega (arith, c.len.ensures) in same)
      (c.in_ok-search.ensures brings (numbers c.args.starts.now)),
  λ k at. absurd (Contains-nil k at),
)

pub visit-requires : goal.visit-requires
visit-requires c =
    let starts = c.args.starts.now in
    let x = get_or starts c.loop-start.start-index no_signal in
    let member = number_among starts c.loop-start.start-index c.loop-start-test.true in
    subst (λ n. x.0 < n) (sym (c.loop-start.invariant (λ a b. false)).0.size)
    (c.requires.starts x.0 member)

pub loop-start-preserved : goal.loop-start-preserved
loop-start-preserved c = λ brings.
    begin_more c.args.graph.now brings c.args.starts.now c.loop-start.search c.visit.new.self
    c.loop-start.start-index no_signal
    c.requires.starts c.loop-start-test.true c.in_ok-visit.ensures (c.loop-start.invariant brings)

pub loop-place-init : goal.loop-place-init
loop-place-init c = (
  omega arith,
  λ brings bring.
      subst (λ ss. Begins c.args.graph.now brings (numbers c.args.starts.now) (numbers ss) 0
      c.loop-start.search)
      (take_all c.loop-start.start-index c.args.starts.now c.loop-start-test.false)
      (c.loop-start.invariant brings),
)

pub expand-requires-clause-size : goal.expand-requires-clause-size
expand-requires-clause-size c =
    sym (c.loop-place.invariant.1 (edges c.args.graph.now c.args.least) (λ a b. refl)).0.size

pub expand-requires-clause-within : goal.expand-requires-clause-within
expand-requires-clause-within c =
    (c.loop-place.invariant.1 (edges c.args.graph.now c.args.least) (λ a b. refl)).0.within

pub loop-place-smaller : goal.loop-place-smaller
loop-place-smaller c =
    let brings = edges c.args.graph.now c.args.least in
    let search = c.loop-place.search in
    let most = not_full (size c.args.graph.now) brings (numbers c.args.starts.now)
    c.loop-place.place search
    (c.loop-place.invariant.1 brings (λ a b. refl)).0 in
    let count = length-map search.visits.items (λ (visit : Visit). visit.signal.0) in
    omega (arith, c.loop-place-test.true)

pub loop-place-preserved : goal.loop-place-preserved
loop-place-preserved c = (
  (let brings = edges c.args.graph.now c.args.least in
      let lt = (c.in_ok-expand.ensures brings (numbers c.args.starts.now) (λ a b.
      refl) c.requires.starts
      (c.loop-place.invariant.1 brings (λ a b. refl)).0).2 in omega arith),
  λ brings bring.
      let so_far = c.loop-place.invariant.1 brings bring in
      let next = c.in_ok-expand.ensures brings (numbers c.args.starts.now) bring c.requires.starts
      so_far.0 in
      (next.0, λ k at. next.1 k (so_far.1 k at)),
)

pub returns : goal.returns
returns c = λ brings bring.
    let search = c.loop-place.search in
    let count = length-map search.visits.items (λ (visit : Visit). visit.signal.0) in
    search_end c.args.graph.now brings (numbers c.args.starts.now) (numbers c.args.starts.now)
    c.loop-place.place search
    c.requires.starts refl (omega (arith, c.loop-place-test.false)) c.loop-place.invariant.0
    (c.loop-place.invariant.1 brings bring)
