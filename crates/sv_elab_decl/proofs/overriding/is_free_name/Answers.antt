use Rattle.std.proofs.Common.{◌≡◌, Bool, sym, ap, ◌∙◌}
use Rattle.std.specs.Prelude.{not, ◌&&◌, is_some}
use Rattle.sv_ast.specs.Instances.{entry}
use Rattle.sv_elab_decl.specs.Sites.{settings_of}
use Rattle.sv_elab_decl.proofs.OverrideEnds.{set_there}
use Rattle.sv_elab_decl.proofs.overriding.is_free_name.Goals as goal

pub returns-then-contains : goal.returns-then-contains
returns-then-contains c =
    let values = c.args.set.now.entries in
    let n = c.args.name.now in
    ap (λ (b : Bool). not b) (c.contains_key.ensures ∙ sym (set_there values n))
    ∙ ap (λ (b : Bool). b && not (is_some (entry (settings_of values) n)))
    (sym (sym c.contains.ensures ∙ c.if-contains.true))
