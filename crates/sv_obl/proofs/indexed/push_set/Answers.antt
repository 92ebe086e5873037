use Rattle.std.proofs.Common.{[], ◌∷◌, ◌++◌, sym, ap, ◌∙◌, append_assoc, append-nil}
use Rattle.std.specs.Map.Iter.{deref}
use Rattle.std.proofs.lemmas.Map.Iter.{rest_more, rest_all}
use Rattle.sv_obl.proofs.indexed.push_set.Goals as goal

pub loop-number-preserved : goal.loop-number-preserved
loop-number-preserved c =
    let more = rest_more deref c.loop-number.number-iterator c.next.new.self c.next.result
    c.in-Some.number c.in-Some.is c.next.ensures.steps in
    ap (λ xs. xs ++ c.next.new.self) c.in_ok-push.ensures.items
    ∙ append_assoc c.loop-number.names.items (c.in-Some.number.now ∷ []) c.next.new.self
    ∙ ap (λ xs. c.loop-number.names.items ++ xs) (sym more)
    ∙ c.loop-number.invariant

pub returns : goal.returns
returns c =
    sym (append-nil c.loop-number.names.items)
    ∙ ap (λ xs. c.loop-number.names.items ++ xs)
    (sym (rest_all deref c.loop-number.number-iterator c.next.new.self c.next.result c.in-None.is
    c.next.ensures.steps))
    ∙ c.loop-number.invariant
