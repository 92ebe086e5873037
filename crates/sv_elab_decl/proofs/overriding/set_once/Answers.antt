use Rattle.std.proofs.Common.{◌≡◌, ℕ, List, None, sym, ap, ◌∙◌}
use Rattle.std.specs.Map.{lookup}
use Rattle.std.specs.Str.{bytes_eq}
use Rattle.indexmap.specs.IndexMap.{insert_entry}
use Rattle.indexmap.proofs.CallerLemmas.{insert_entry-new}
use Rattle.sv_num.specs.declared.vectors.Bits.{Bits}
use Rattle.sv_ast.specs.Instances.{entry}
use Rattle.sv_elab_decl.proofs.Entries.{none_there}
use Rattle.sv_elab_decl.proofs.OverrideEnds.{set_before}
use Rattle.sv_elab_decl.proofs.overriding.set_once.Goals as goal

pub returns-then-contains_key : goal.returns-then-contains_key
returns-then-contains_key c =
    set_before c.args.set.now.entries c.args.name.now c.args.bits (sym c.contains_key.ensures
    ∙ c.if-contains_key.true)

pub returns : goal.returns
returns c = λ n.
    let none : lookup (bytes_eq c.args.name.now) c.args.set.now.entries ≡ None =
    none_there _ (sym c.contains_key.ensures ∙ c.if-contains_key.false) in
    ap (λ (es : List (List ℕ × Bits)). entry es n)
    (c.in_ok-insert.ensures.entries
    ∙ ap (λ (m : List ℕ). insert_entry bytes_eq c.args.set.now.entries m c.args.bits)
    c.in_ok-copy.ensures
    ∙ insert_entry-new bytes_eq c.args.set.now c.args.name.now c.args.bits none)
