use Rattle.std.proofs.Common.{◌≡◌, ◌++◌, Bool, true, false, sym, ap, ◌∙◌}
use Rattle.std.specs.Prelude.{is_some, ◌||◌}
use Rattle.std.specs.List.{list_any}
use Rattle.std.specs.Str.{bytes_eq}
use Rattle.std.proofs.lemmas.List.Folds.{list_any-append}
use Rattle.sv_elab.specs.Instances.{declared_names}
use Rattle.sv_elab.proofs.OpenedEnds.{declared_taken}
use Rattle.sv_elab.proofs.instances.Interior.is_taken.Goals as goal
use Rattle.sv_elab.proofs.instances.Interior.is_taken.Goals.{After-is_some}

-- whether a name stands among the declared ones or those of instances
taken_as : (c : After-is_some) (b : Bool) → c.is_some.result ≡ b
    → list_any (bytes_eq c.args.name.now)
    (declared_names c.args.self.now.scope.now ++ c.args.self.now.instances.keys)
    ≡ (b || list_any (bytes_eq c.args.name.now) c.args.self.now.instances.keys)
taken_as c b is =
    let n = c.args.name.now in
    let known = c.args.self.now.scope.now in
    let keys = c.args.self.now.instances.keys in
    let declared = c.is_some.ensures ∙ ap is_some c.find.ensures
    ∙ declared_taken known.meanings n in
    list_any-append (bytes_eq n) (declared_names known) keys
    ∙ ap (λ d. d || list_any (bytes_eq n) keys) (sym declared ∙ is)

pub returns-then-is_some : goal.returns-then-is_some
returns-then-is_some c =
    let a = (goal.at.returns-then-is_some c).After-is_some in
    c.if-is_some.true ∙ sym (taken_as a true c.if-is_some.true)

pub returns-else-is_some : goal.returns-else-is_some
returns-else-is_some c =
    let a = (goal.at.returns-else-is_some c).After-is_some in
    c.contains.ensures ∙ sym (taken_as a false c.if-is_some.false)
