use Rattle.std.proofs.Common.{rules}
use Rattle.std.proofs.lemmas.List.Sorted.{answers_always}
use Rattle.sv_flat.specs.declared.signals.SigId.{SigId}
use Rattle.sv_design.specs.Numbers.{numbers}
use Rattle.sv_blast.proofs.Searched.{Found, searched, found_some, found_none}
use Rattle.sv_blast.proofs.decoding.place_of.Goals as goal

-- the closure gives a signal's number
found : (c : goal.After-ok) →
    Found (numbers c.args.listed.now) c.args.signal.0 c.binary_search_by_key.result
found c =
    let facts = c.binary_search_by_key.ensures in
    searched c.args.listed.now c.requires c.args.signal.0 c.binary_search_by_key.result facts.bound
    (facts.position (λ (t : SigId). t.0)
    (answers_always _ _ _ (λ f a r g called. search rules)))

pub returns-clause-found : goal.returns-clause-found
returns-clause-found c =
    found_some c.args.listed.now c.requires c.args.signal.0 c.binary_search_by_key.result
    c.ok.result (found c) c.ok.ensures.value

pub returns-clause-absent : goal.returns-clause-absent
returns-clause-absent c =
    found_none c.args.listed.now c.requires c.args.signal.0 c.binary_search_by_key.result
    c.ok.result (found c) c.ok.ensures.value
