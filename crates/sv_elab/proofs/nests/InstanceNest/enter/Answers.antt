use Rattle.std.proofs.Common.{◌≡◌, List, ℕ, [], ◌∷◌, ◌++◌, reverse, ap, ◌∙◌}
use Rattle.std.specs.List.{list_any}
use Rattle.std.specs.Str.{bytes_eq}
use Rattle.indexmap.specs.IndexSet.{insert_key}
use Rattle.sv_elab.specs.Nests.{InstanceNesting, entered}
use Rattle.sv_elab.proofs.NestLemmas.{around_more}
use Rattle.sv_elab.proofs.nests.InstanceNest.enter.Goals as goal

pub returns : goal.returns
returns c =
    let keys = c.self.inside.around.keys in
    let names : List (List ℕ) = c.self.inside.path.items in
    let path : c.push.new.self.items ≡ names ++ c.args.name.now ∷ [] =
    c.in_ok-push.ensures.items ∙ ap (λ n. names ++ n ∷ []) c.in_ok-copy.ensures in
    let around : reverse c.insert.new.self.keys ≡ c.args.master.now ∷ reverse keys =
    ap reverse (c.in_ok-insert.ensures.keys ∙ ap (insert_key bytes_eq keys) c.in_ok-copy-2.ensures)
    ∙ around_more keys c.args.master.now
    (ap (λ (n : InstanceNesting). list_any (bytes_eq c.args.master.now) n.around) c.self.view_is
    ∙ c.requires) in
    ap (λ (p : List (List ℕ)).
    let n : InstanceNesting = record { path = p; around = reverse c.insert.new.self.keys } in n)
    path
    ∙ ap (λ (a : List (List ℕ)).
    let n : InstanceNesting = record { path = names ++ c.args.name.now ∷ []; around = a } in n)
    around
    ∙ ap (λ (n : InstanceNesting). entered n c.args.name.now c.args.master.now) c.self.view_is
