use Rattle.std.proofs.Common.{[], ◌∷◌, ◌++◌, sym, ap, ◌∙◌, append_assoc, append-nil}
use Rattle.std.specs.Map.Iter.{deref}
use Rattle.std.proofs.lemmas.Map.Iter.{rest_more, rest_all}
use Rattle.sv_obl.proofs.indexed.push_keys.Goals as goal

pub loop-target-preserved : goal.loop-target-preserved
loop-target-preserved c =
    let more = rest_more deref c.loop-target.target-iterator c.next.new.self c.next.result
    c.in-Some.target c.in-Some.is c.next.ensures.steps in
    ap (λ xs. xs ++ c.next.new.self) c.in_ok-push.ensures.items
    ∙ append_assoc c.loop-target.names.items (c.in-Some.target.now ∷ []) c.next.new.self
    ∙ ap (λ xs. c.loop-target.names.items ++ xs) (sym more)
    ∙ c.loop-target.invariant

pub returns : goal.returns
returns c =
    sym (append-nil c.loop-target.names.items)
    ∙ ap (λ xs. c.loop-target.names.items ++ xs)
    (sym (rest_all deref c.loop-target.target-iterator c.next.new.self c.next.result c.in-None.is
    c.next.ensures.steps))
    ∙ c.loop-target.invariant
