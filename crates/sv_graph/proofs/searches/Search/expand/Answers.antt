use Rattle.std.proofs.Common.{◌≡◌, ◌<◌, length, get_or, drop, sym, ap, subst, ◌∙◌, arith}
use Rattle.std.proofs.lemmas.List.{at_drop_all, get_or-map}
use Rattle.std.proofs.Math.ListN.{length-map}
use Rattle.sv_flat.proofs.LeastSets.{holds-from_Contains}
use Rattle.sv_flat.specs.Sets.{holds}
use Rattle.sv_graph.specs.declared.searches.Search.{Search}
use Rattle.sv_graph.specs.declared.searches.Visit.{Visit}
use Rattle.sv_graph.specs.Graphs.{size, row}
use Rattle.sv_graph.specs.Numbers.{numbers}
use Rattle.sv_graph.specs.Searches.{found_by}
use Rattle.sv_graph.proofs.GraphFacts.{row_is}
use Rattle.sv_graph.proofs.SearchFacts.{visit_size, expand_more, expand_end}
use Rattle.sv_graph.proofs.SignalLists.{no_signal, number_among}
use Rattle.sv_graph.proofs.searches.Search.expand.Goals as goal

-- the signal of the visit at a place
signal_at : (search : Search) (place : _) (visit : Visit) → place < length (found_by search)
    → visit ≡ get_or search.visits.items place visit
    → visit.signal.0 ≡ get_or (found_by search) place 0
signal_at search place visit inside is =
    let f = λ (s : Visit). s.signal.0 in
    ap f is ∙ sym (get_or-map f search.visits.items place visit 0
    (subst (λ n. place < n) (length-map search.visits.items f) inside))

pub index-requires-2 : goal.index-requires-2
index-requires-2 c =
    let here = signal_at c.args.self.now c.args.place c.index.result.now c.requires.place
    c.index.ensures in
    let inside = subst (λ s.
    s < size c.args.graph.now) (sym here) (c.requires.within c.args.place c.requires.place) in
    omega arith

pub visit-requires : goal.visit-requires
visit-requires c =
    let here = signal_at c.args.self.now c.args.place c.index.result.now c.requires.place
    c.index.ensures in
    let inside = subst (λ s.
    s < size c.args.graph.now) (sym here) (c.requires.within c.args.place c.requires.place) in
    let signals = c.as_slice-row.result.now in
    let is : numbers signals ≡ row c.args.graph.now c.index.result.now.signal.0 =
    ap numbers c.as_slice-row.ensures.value
    ∙ row_is c.args.graph.now c.index.result.now.signal.0 c.index-2.result.now inside
    c.index-2.ensures in
    let x = get_or signals c.loop-next.next-index no_signal in
    let member = number_among signals c.loop-next.next-index c.loop-next-test.true in
    subst (λ n. x.0 < n) (sym c.loop-next.invariant.0)
    (c.requires.whole c.index.result.now.signal.0 x.0 (ap (λ r. holds r x.0) (sym is)
    ∙ holds-from_Contains (numbers signals) x.0 member))

pub loop-next-preserved : goal.loop-next-preserved
loop-next-preserved c =
    let here = signal_at c.args.self.now c.args.place c.index.result.now c.requires.place
    c.index.ensures in
    let inside = subst (λ s.
    s < size c.args.graph.now) (sym here) (c.requires.within c.args.place c.requires.place) in
    let signals = c.as_slice-row.result.now in
    let i = c.loop-next.next-index in
    let is : numbers signals ≡
    row c.args.graph.now (get_or (found_by c.args.self.now) c.args.place 0) =
    ap numbers c.as_slice-row.ensures.value
    ∙ row_is c.args.graph.now c.index.result.now.signal.0 c.index-2.result.now inside
    c.index-2.ensures
    ∙ ap (row c.args.graph.now) here in (
      visit_size c.loop-next.self c.visit.new.self c.args.least (get_or signals i no_signal).0
          c.args.place c.in_ok-visit.ensures
          ∙ c.loop-next.invariant.0,
      λ brings starts bring within before.
          expand_more c.args.graph.now c.args.least c.args.place signals
          (get_or (found_by c.args.self.now) c.args.place 0)
          c.args.self.now c.loop-next.self c.visit.new.self i no_signal brings starts bring within
          c.requires.whole is c.loop-next-test.true
          c.in_ok-visit.ensures (c.loop-next.invariant.1 brings starts bring within before),
    )

pub returns : goal.returns
returns c = λ brings starts bring within before.
    let here = signal_at c.args.self.now c.args.place c.index.result.now c.requires.place
    c.index.ensures in
    let inside = subst (λ s.
    s < size c.args.graph.now) (sym here) (c.requires.within c.args.place c.requires.place) in
    let signals = c.as_slice-row.result.now in
    let is : numbers signals ≡
    row c.args.graph.now (get_or (found_by c.args.self.now) c.args.place 0) =
    ap numbers c.as_slice-row.ensures.value
    ∙ row_is c.args.graph.now c.index.result.now.signal.0 c.index-2.result.now inside
    c.index-2.ensures
    ∙ ap (row c.args.graph.now) here in
    expand_end c.args.graph.now c.args.least c.args.place signals
    (get_or (found_by c.args.self.now) c.args.place 0)
    c.args.self.now c.loop-next.self brings starts (drop c.loop-next.next-index signals) bring is
    (at_drop_all numbers signals c.loop-next.next-index c.loop-next-test.false)
    (c.loop-next.invariant.1 brings starts bring within before)
