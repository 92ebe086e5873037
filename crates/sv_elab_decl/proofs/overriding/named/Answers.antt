use Rattle.std.proofs.Common.{◌≡◌, ℕ, ◌+◌, Bool, true, false, List, [], ◌∷◌, drop, map, None}
use Rattle.std.proofs.Common.{sym, ap, ◌∙◌}
use Rattle.std.specs.Prelude.{not, ◌&&◌, is_some}
use Rattle.std.specs.List.{list_all}
use Rattle.std.specs.Map.{lookup}
use Rattle.std.specs.Str.{bytes_eq}
use Rattle.std.proofs.lemmas.List.{map_push}
use Rattle.std.proofs.lemmas.Result.{err_from_is_err_and}
use Rattle.indexmap.specs.IndexMap.{insert_entry}
use Rattle.indexmap.proofs.CallerLemmas.{insert_entry-new}
use Rattle.sv_num.specs.declared.faults.Place.{Place}
use Rattle.sv_num.specs.declared.vectors.Bits.{Bits}
use Rattle.sv_ast.specs.declared.expressions.Expr.{Expr}
use Rattle.sv_ast.specs.Scopes.{Number}
use Rattle.sv_ast.specs.Instances.{entry}
use Rattle.sv_ast.specs.Shape.{is_shaped_override}
use Rattle.sv_ast.specs.Views.{named_override, module_tree}
use Rattle.sv_elab_rules.specs.Rules.{wrong_override}
use Rattle.sv_elab_rules.specs.ExpressionSteps.{constant_walk}
use Rattle.sv_elab_rules.specs.Overrides.{is_open, named_walk}
use Rattle.sv_width.specs.Scopes.{names_of, number_of}
use Rattle.sv_width.proofs.Breaches.{breach_by}
use Rattle.sv_elab_decl.specs.Sites.{settings_of}
use Rattle.sv_elab_decl.proofs.Entries.{none_there}
use Rattle.sv_elab_decl.proofs.Faults.{breach_on}
use Rattle.sv_elab_decl.proofs.Lists.{left_more, left_none, all_parts}
use Rattle.sv_elab_decl.proofs.OverrideEnds.{named_none, named_wrong, named_stops, named_more}
use Rattle.sv_elab_decl.proofs.OverrideEnds.{set_there, not_true}
use Rattle.sv_elab_decl.proofs.overriding.named.Goals as goal
use Rattle.sv_elab_decl.proofs.overriding.named.Goals.{After-is_free_name}

-- the walk has come to the override at hand
here : (c : After-is_free_name) →
    (named_walk (names_of c.args.outer.now) (module_tree c.args.master.now) []
    (map named_override c.args.values.now)).end
    ≡ (named_walk (names_of c.args.outer.now) (module_tree c.args.master.now)
    (settings_of c.loop-name.set.entries) (named_override c.loop-name-item.result
    ∷ map named_override (drop (c.loop-name.name-index + 1) c.args.values.now))).end
here c =
    sym c.loop-name.invariant.walk
    ∙ ap (λ (vs : List (List ℕ × Place × Expr)).
    (named_walk (names_of c.args.outer.now) (module_tree c.args.master.now)
    (settings_of c.loop-name.set.entries) (map named_override vs)).end)
    (left_more c.args.values.now c.loop-name.name-index c.loop-name-item.result
    c.loop-name-test.true c.loop-name-item.is)

-- whether its name may be set is what the code found
open_as : (c : After-is_free_name) (b : Bool) → c.is_free_name.result ≡ b
    → (is_open (module_tree c.args.master.now) (named_override c.loop-name-item.result).name
    && not (is_some (entry (settings_of c.loop-name.set.entries)
    (named_override c.loop-name-item.result).name))) ≡ b
open_as c b found =
    let o = named_override c.loop-name-item.result in
    let set = settings_of c.loop-name.set.entries in
    ap (λ (d : Bool). d && not (is_some (entry set o.name))) (sym (c.in_ok-free.ensures o.name))
    ∙ sym c.is_free_name.ensures ∙ found

pub returns-then-not-is_free_name-clause-broken : goal.returns-then-not-is_free_name-clause-broken
returns-then-not-is_free_name-clause-broken c =
    let a = (goal.at.returns-then-not-is_free_name-clause-broken c).After-is_free_name in
    let outer = names_of c.args.outer.now in
    let m = module_tree c.args.master.now in
    let values = c.args.values.now in
    let o = named_override c.loop-name-item.result in
    let set = settings_of c.loop-name.set.entries in
    let rest = map named_override (drop (c.loop-name.name-index + 1) values) in
    let no : c.is_free_name.result ≡ false = cc in
    breach_by c.refusal_naming.result (wrong_override o.place o.name) c.refusal_naming.ensures
    (named_walk outer m [] (map named_override values)).end
    (here a ∙ named_wrong outer m set o rest (open_as a false no))

pub returns-in_err-bits-clause-broken : goal.returns-in_err-bits-clause-broken
returns-in_err-bits-clause-broken c =
    let a = (goal.at.returns-in_err-bits-clause-broken c).After-is_free_name in
    let o = named_override c.loop-name-item.result in
    let values = c.args.values.now in
    let rest = map named_override (drop (c.loop-name.name-index + 1) values) in
    let outer = names_of c.args.outer.now in
    let m = module_tree c.args.master.now in
    let set = settings_of c.loop-name.set.entries in
    let yes : c.is_free_name.result ≡ true = cc in
    let q = err_from_is_err_and c.from_residual-in_err-bits.result
    c.from_residual-in_err-bits.ensures.1 in
    rw (q.1, q.2)
    (breach_on c.in_err-bits.field-0.0 (constant_walk outer o.value).end
    (named_walk outer m [] (map named_override values)).end
    (λ s e. here a ∙ named_stops outer m set o rest (open_as a true yes) s e)
    c.in_err-bits.ensures.broken)

pub loop-name-preserved : goal.loop-name-preserved
loop-name-preserved c =
    let a = (goal.at.loop-name-preserved c).After-is_free_name in
    let outer = names_of c.args.outer.now in
    let m = module_tree c.args.master.now in
    let values = c.args.values.now in
    let i = c.loop-name.name-index in
    let value = c.loop-name-item.result in
    let o = named_override value in
    let es = c.loop-name.set.entries in
    let set = settings_of es in
    let bits = c.in_ok-bits.bits in
    let rest = map named_override (drop (i + 1) values) in
    let split = left_more values i value c.loop-name-test.true c.loop-name-item.is in
    let yes : c.is_free_name.result ≡ true = cc in
    let free = open_as a true yes in
    let absent : is_some (entry set o.name) ≡ false =
    not_true (is_open m o.name) (is_some (entry set o.name)) free in
    let none : lookup (bytes_eq o.name) es ≡ None =
    none_there _ (sym (set_there es o.name) ∙ absent) in
    let entries = c.in_ok-insert.ensures.entries
    ∙ ap (λ (n : List ℕ). insert_entry bytes_eq es n bits) c.in_ok-copy.ensures
    ∙ insert_entry-new bytes_eq c.loop-name.set o.name bits none in
    record {
      walk =
          ap (λ (vs : List (List ℕ × Bits)). (named_walk outer m (settings_of vs) rest).end) entries
          ∙ ap (λ (vs : List (List ℕ × Number)). (named_walk outer m vs rest).end)
          (map_push (λ (v : List ℕ × Bits). (v.0, number_of v.1)) es (o.name, bits))
          ∙ sym (named_more outer m set o rest free (number_of bits) c.in_ok-bits.ensures.found)
          ∙ sym (here a);
      shaped = (all_parts is_shaped_override o rest
          (ap (λ (vs : List (List ℕ × Place × Expr)).
          list_all is_shaped_override (map named_override vs)) (sym split)
          ∙ c.loop-name.invariant.shaped)).1;
    }

pub returns-clause-found : goal.returns-clause-found
returns-clause-found c =
    let outer = names_of c.args.outer.now in
    let m = module_tree c.args.master.now in
    let set = settings_of c.loop-name.set.entries in
    sym c.loop-name.invariant.walk
    ∙ ap (λ (vs : List (List ℕ × Place × Expr)).
    (named_walk outer m set (map named_override vs)).end)
    (left_none c.args.values.now c.loop-name.name-index c.loop-name-test.false)
    ∙ named_none outer m set
