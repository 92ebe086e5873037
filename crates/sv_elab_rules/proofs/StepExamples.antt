-- The steps of a small text in order, and the limits of signals and instances.
use Rattle.std.proofs.Common.{◌≡◌, ℕ, true, [], ◌∷◌, map, None, refl}
use Rattle.std.specs.Prelude.{codes, Err, is_ok}
use Rattle.sv_num.specs.declared.operators.BinOp.TheVariants as binop
use Rattle.sv_ast.specs.Tree.{declared, LinkTrees, ordered_links, ModuleTree, TextTree}
use Rattle.sv_elab_rules.specs.Rules.{no_top, twice, too_many, bad_range, unknown_name, not_constant}
use Rattle.sv_elab_rules.specs.Rules.{zero_divisor}
use Rattle.sv_elab_rules.specs.Names.{Names, names_of}
use Rattle.sv_elab_rules.specs.Declarations.{Site, nothing_declared, signal_walk, declarations_walk}
use Rattle.sv_elab_rules.specs.LabelSteps.{SharedTables}
use Rattle.sv_elab_rules.specs.Links.{links_walk}
use Rattle.sv_elab_rules.specs.InstanceSteps.{Built, ports_of, site_walk}
use Rattle.sv_elab_rules.specs.Texts.{walk_of}
use Rattle.sv_elab_rules.proofs.Computing.{computing}
use Rattle.sv_elab_rules.proofs.SmallTexts.{at, name, decimal, bits, op, range, input, wire_with}
use Rattle.sv_elab_rules.proofs.SmallTexts.{no_overrides, no_links, stands, module_of, text_of}

-- module m(input a); wire [3:0] w = a + 1; endmodule
abbrev small : TextTree
small = text_of None []
    (module_of "m" 8 [] (input None "a" 16 ∷ [])
    (wire_with (range (decimal 3 26) (decimal 0 28)) "w" 31
    (op binop.Add 37 (name "a" 35) (decimal 1 39)) ∷ [])
    ∷ [])

-- the module's name, the top, both declarations, and the name in the value
pub steps_in_order : (walk_of small None).passed ≡
    twice (at 8) (codes "m")
    ∷ no_top
    ∷ twice (at 16) (codes "a") ∷ too_many (at 16)
    ∷ bad_range (at 26) ∷ twice (at 31) (codes "w") ∷ too_many (at 31)
    ∷ unknown_name (at 35) (codes "a") ∷ not_constant (at 35) ∷ []
unfolding computing
steps_in_order = refl

-- module m; s u(), v(); endmodule module s; endmodule
abbrev outer : ModuleTree
outer = module_of "m" 8 [] []
    (stands "s" 11 no_overrides "u" 13 no_links ∷ stands "s" 11 no_overrides "v" 18 no_links ∷ [])

abbrev tables : SharedTables
tables = record {
  modules = outer ∷ module_of "s" 40 [] [] [] ∷ [];
  points = codes "L" ∷ codes "H" ∷ [];
  least = 0;
  map_names = [];
  maps = [];
}

abbrev site : Site
site = record { path = []; around = codes "m" ∷ []; master = outer; set = [] }

-- so many instances before those of the module
abbrev after_instances : ℕ → Built
after_instances n = record { signals = []; processes = []; instances = n }

pub the_last_instances : is_ok (site_walk 3 tables site (after_instances 1022)).end ≡ true
unfolding computing
the_last_instances = refl

pub an_instance_too_many : (site_walk 3 tables site (after_instances 1023)).end ≡
    Err (too_many (at 11))
unfolding computing
an_instance_too_many = refl

pub the_last_signal :
    is_ok (signal_walk 4095 0 site nothing_declared (input None "a" 16)).end ≡ true
unfolding computing
the_last_signal = refl

pub a_signal_too_many : (signal_walk 4096 0 site nothing_declared (input None "a" 16)).end ≡
    Err (too_many (at 16))
unfolding computing
a_signal_too_many = refl

-- module s(input [7:0] p); endmodule, as `s u(4'd3 / (4'd15 + 4'd1));` behind 4,096 signals
abbrev behind_all : Site
behind_all = record {
  path = codes "u" ∷ [];
  around = codes "s" ∷ codes "m" ∷ [];
  master = module_of "s" 8 [] (input (range (decimal 7 17) (decimal 0 19)) "p" 22 ∷ []) [];
  set = [];
}

abbrev quotient : LinkTrees
quotient =
    ordered_links (op binop.Div 12 (bits 4 3 7) (op binop.Add 21 (bits 4 15 15) (bits 4 1 23)) ∷ [])

abbrev around_it : Names
around_it = names_of 0 []

-- the port is one too many
pub a_port_too_many :
    (declarations_walk 4096 0 behind_all nothing_declared (map declared behind_all.master.ports)).end
    ≡ Err (too_many (at 22))
unfolding computing
a_port_too_many = refl

-- its link is taken at its 8 bits all the same, where the divisor is 16
pub a_link_at_full_width : is_ok (links_walk around_it (ports_of 0 behind_all 4096) [] quotient).end
    ≡ true
unfolding computing
a_link_at_full_width = refl

-- at the 4 bits of the expression itself it would be 0
pub a_link_at_no_width :
    (links_walk around_it (record { base = 4096; master = behind_all.master; scope = λ n. None }) []
    quotient).end ≡ Err (zero_divisor (at 21))
unfolding computing
a_link_at_no_width = refl
