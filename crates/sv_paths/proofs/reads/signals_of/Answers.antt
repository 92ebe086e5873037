use Rattle.std.proofs.Common.{[], ◌∷◌, ◌++◌, map, sym, ap, ◌∙◌, append_assoc, append-nil}
use Rattle.std.specs.Map.Iter.{deref}
use Rattle.std.proofs.lemmas.List.{map-append}
use Rattle.std.proofs.lemmas.Map.Iter.{rest_more, rest_all}
use Rattle.sv_obl.specs.Views.{number_of}
use Rattle.sv_paths.proofs.reads.signals_of.Goals as goal

pub loop-number-preserved : goal.loop-number-preserved
loop-number-preserved c =
    let more = rest_more deref c.loop-number.number-iterator c.next.new.self c.next.result
    c.in-Some.number c.in-Some.is c.next.ensures.steps in
    ap (λ xs. map number_of xs ++ c.next.new.self) c.in_ok-push.ensures.items
    ∙ ap (λ xs. xs ++ c.next.new.self)
    (map-append number_of c.loop-number.signals.items
    (record { 0 = c.in-Some.number.now } ∷ []))
    ∙ append_assoc (map number_of c.loop-number.signals.items) (c.in-Some.number.now ∷ [])
    c.next.new.self
    ∙ ap (λ xs. map number_of c.loop-number.signals.items ++ xs) (sym more)
    ∙ c.loop-number.invariant

pub returns : goal.returns
returns c =
    sym (append-nil (map number_of c.loop-number.signals.items))
    ∙ ap (λ xs. map number_of c.loop-number.signals.items ++ xs)
    (sym (rest_all deref c.loop-number.number-iterator c.next.new.self c.next.result c.in-None.is
    c.next.ensures.steps))
    ∙ c.loop-number.invariant
