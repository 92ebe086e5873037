-- The definitions of the walk, to be computed with: `unfolding computing` opens them all.
use Rattle.sv_ast.specs.Values.{value, signed_of}
use Rattle.sv_elab_rules.specs.Walks.{each}
use Rattle.sv_elab_rules.specs.TypedExpressions.{names_signal, typed_of}
use Rattle.sv_elab_rules.specs.ExpressionSteps.{sized_parts, typed_walk, expression_walk, constant_walk}
use Rattle.sv_elab_rules.specs.ExpressionSteps.{divisors, asked}
use Rattle.sv_elab_rules.specs.Targets.{selection_steps, target_steps, targets_steps, assignment_walk}
use Rattle.sv_elab_rules.specs.CaseChains.{item_length, item_signed, keeps_length, is_complete}
use Rattle.sv_elab_rules.specs.Statements.{items_walk, statement_walk}
use Rattle.sv_elab_rules.specs.Declarations.{range_steps, final_walk, parameter_walk, signal_ahead}
use Rattle.sv_elab_rules.specs.Declarations.{signal_walk, declaration_walk, declarations_walk}
use Rattle.sv_elab_rules.specs.Declarations.{declaration_ahead, declared_until}
use Rattle.sv_elab_rules.specs.Lattices.{answered, pair_steps, order_steps, checked_order, lattice_walk}
use Rattle.sv_elab_rules.specs.LabelMaps.{rows_walk, default_walk, map_walk, maps_walk}
use Rattle.sv_elab_rules.specs.LabelSteps.{second_selector, second_fits, label_walk, given_label}
use Rattle.sv_elab_rules.specs.LabelSteps.{labels_walk}
use Rattle.sv_elab_rules.specs.Overrides.{named_walk, ordered_walk, overrides_walk}
use Rattle.sv_elab_rules.specs.Links.{input_link, output_link, link_walk, optional_link, named_links_walk}
use Rattle.sv_elab_rules.specs.Links.{ordered_links_walk, links_walk}
use Rattle.sv_elab_rules.specs.InstanceSteps.{value_walk, assign_walk, always_walk, ports_of}
use Rattle.sv_elab_rules.specs.InstanceSteps.{instance_walk, item_walk, items_from, module_walk}
use Rattle.sv_elab_rules.specs.InstanceSteps.{site_walk}
use Rattle.sv_elab_rules.specs.Texts.{module_names, top_walk, walk_of}

unfoldable pub computing : Unit {0}
unfolding value signed_of each names_signal typed_of sized_parts typed_walk expression_walk
    constant_walk
    divisors asked selection_steps target_steps targets_steps assignment_walk item_length
    item_signed
    keeps_length is_complete items_walk statement_walk range_steps final_walk parameter_walk
    signal_ahead signal_walk
    declaration_walk declarations_walk declaration_ahead declared_until answered pair_steps order_steps checked_order
    lattice_walk
    rows_walk default_walk map_walk maps_walk second_selector second_fits label_walk given_label
    labels_walk named_walk ordered_walk overrides_walk input_link output_link link_walk
    optional_link named_links_walk
    ordered_links_walk links_walk value_walk assign_walk always_walk ports_of instance_walk
    item_walk
    items_from module_walk site_walk module_names top_walk walk_of
computing = tt
