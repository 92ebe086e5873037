use Rattle.std.proofs.Common.{ℕ, rules, tests, ◌∙◌}
use Rattle.std.specs.Prelude.{is_some}
use Rattle.std.specs.BTreeMap.{is_at}
use Rattle.std.specs.Map.{lookup}
use Rattle.std.specs.Ordering.{nat_cmp}
use Rattle.std.proofs.lemmas.Iterator.Consumers.{YieldsList-from_rest}
use Rattle.std.proofs.lemmas.Iterator.Search.{any_from_yields_List}
use Rattle.sv_paths.proofs.NameFacts.{some_found}
use Rattle.sv_paths.proofs.path_names.PathNames.has_some_of.Goals as goal

pub returns : goal.returns
returns c =
    let entries = c.args.self.now.wanted.entries in
    any_from_yields_List (λ (s : ℕ). is_some (lookup (is_at (nat_cmp s)) entries)) _ _ c.any.result
    c.any.ensures.ran (YieldsList-from_rest c.args.signals.now.keys cc)
    (λ x b q k. search (rules, tests))
    ∙ some_found entries c.args.signals.now.keys
