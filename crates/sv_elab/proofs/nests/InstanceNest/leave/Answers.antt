use Rattle.std.proofs.Common.{◌≡◌, ℕ, List, reverse, arith, ap, ◌∙◌}
use Rattle.sv_elab.specs.Nests.{InstanceNesting}
use Rattle.sv_elab.proofs.NestLemmas.{all_but_last, around_less}
use Rattle.sv_elab.proofs.nests.InstanceNest.leave.Goals as goal

pub returns : goal.returns
returns c = λ outer name master h.
    let keys = c.self.inside.around.keys in
    let e = c.self.view_is ∙ h in
    let path : c.pop.new.self.items ≡ outer.path =
    c.pop.ensures.rest ∙ all_but_last c.self.inside.path.items outer.path name _
    (ap (λ (n : InstanceNesting). n.path) e) (omega (arith, c.self.inside.path.ok.0)) in
    let around : reverse c.truncate.new.self.keys ≡ outer.around =
    ap reverse c.truncate.ensures.keys
    ∙ around_less keys outer.around master c.saturating_sub.result
    (ap (λ (n : InstanceNesting). n.around) e) (omega arith) in
    ap (λ (p : List (List ℕ)).
    let n : InstanceNesting = record { path = p; around = reverse c.truncate.new.self.keys } in n)
    path
    ∙ ap (λ (a : List (List ℕ)). record { path = outer.path; around = a }) around
