-- A whole text of the grammar is what its symbols stand for.
use Rattle.std.proofs.Common.{List, [], ◌∷◌, Option, inl, inr, refl, sym, subst}
use Rattle.sv_token.specs.declared.keywords.WordKind.TheVariants as words
use Rattle.sv_token.specs.declared.signs.SignKind.TheVariants as signs
use Rattle.sv_token.specs.Lexemes.{Lexeme, word, sign, Placed}
use Rattle.sv_ast.specs.Tree.{LatticeTree, MapTree, DeclarationTree, ModuleTree, TextTree}
use Rattle.sv_ast.specs.GrammarForms.{◌⨾◌, each, some, perhaps}
use Rattle.sv_ast.specs.GrammarExpressions.{Limits}
use Rattle.sv_ast.specs.GrammarModules.{IsModule, IsLattice, IsMap, IsText}
use Rattle.sv_parse_machine.specs.ModuleTable.{perhaps_lattice_on, perhaps_maps_on}
use Rattle.sv_parse_machine.specs.ModuleTable.{perhaps_header_parameters_on, perhaps_ports_on}
use Rattle.sv_parse_machine.proofs.ExpressionForms.{Next}
use Rattle.sv_parse_machine.proofs.OuterForms.{IsOver, one_module_form}
use Rattle.sv_parse_machine.proofs.TextForm.{text_form}
use Rattle.sv_parse_machine.proofs.ListTrees.{next_sign, next_word, f_each, b_each}
use Rattle.sv_parse_machine.proofs.HeaderTrees.{f_perhaps_header_parameters, b_perhaps_header_parameters}
use Rattle.sv_parse_machine.proofs.HeaderTrees.{HeaderPorts, f_perhaps_ports, b_perhaps_ports}
use Rattle.sv_parse_machine.proofs.LatticeTrees.{f_perhaps_lattice, b_perhaps_lattice}
use Rattle.sv_parse_machine.proofs.MapTrees.{f_perhaps_maps, next_maps, b_perhaps_maps}
use Rattle.sv_parse_machine.proofs.ItemTrees.{form_of_items, items_of_form}

-- ---- modules

next_ports : (P : Lexeme → Type 0) (l : Limits) (ds : List DeclarationTree) (ts mid : List Placed)
    → P (sign signs.OpenParenthesis) → Next P mid
    → HeaderPorts l ds ts mid → Next P ts
next_ports P l ds ts mid passes behind (inl (none, inl (m, opens, inside))) =
    next_sign P signs.OpenParenthesis ts m passes opens
next_ports P l ds ts mid passes behind (inl (none, inr same)) = subst (Next P) (sym same) behind
next_ports P l ds ts mid passes behind (inr (m, opens, inside)) =
    next_sign P signs.OpenParenthesis ts m passes opens

f_module : (l : Limits) (t : ModuleTree) (ts rest : List Placed) → IsModule l t ts rest →
    one_module_form l ts rest
unfolding IsModule
f_module l t ts rest (m4, (m, starts, (m1, name, (m2, parameters, (m3, ports, close)))), body) = (
  m,
  starts,
  (
    m1,
    (t.name, (t.place, name)),
    (
      m2,
      f_perhaps_header_parameters l t.parameters m1 m2 parameters
          (next_ports (λ x. IsOver (perhaps_header_parameters_on x)) l t.ports m2 m3 tt
          (next_sign (λ x. IsOver (perhaps_header_parameters_on x)) signs.Semicolon m3 m4 tt
          close) ports),
      (
        m3,
        f_perhaps_ports l t.ports m2 m3 ports
            (next_sign (λ x. IsOver (perhaps_ports_on x)) signs.Semicolon m3 m4 tt close),
        (m4, close, (rest, form_of_items l t.items m4 rest body, refl)),
      ),
    ),
  ),
)

abbrev Module : Limits → List Placed → List Placed → Type 0
Module l ts rest = (t : ModuleTree) × IsModule l t ts rest

b_module : (l : Limits) (ts rest : List Placed) → one_module_form l ts rest → Module l ts rest
unfolding IsModule
b_module l ts rest (
  m,
  starts,
  (m1, (x, (p, name)), (m2, parameters, (m3, ports, (m4, close, (m5, body, same))))),
) =
    let parameters = b_perhaps_header_parameters l m1 m2 parameters in
    let ports = b_perhaps_ports l m2 m3 ports in
    let items = items_of_form l m4 m5 body in
    subst (Module l ts) same (
      record { name = x; place = p; parameters = parameters.0; ports = ports.0; items = items.0 },
      (m4, (m, starts, (m1, name, (m2, parameters.1, (m3, ports.1, close)))), items.1),
    )

-- the first token of a module
next_module : (P : Lexeme → Type 0) (l : Limits) (t : ModuleTree) (ts rest : List Placed) →
    P (word words.Module) → IsModule l t ts rest → Next P ts
unfolding IsModule
next_module P l t ts rest passes (m4, (m, starts, header), body) =
    next_word P words.Module ts m passes starts

-- ---- texts

text_has_form : (l : Limits) (ms : List ModuleTree) (lattice : Option LatticeTree)
    (maps : List MapTree) (ts : List Placed)
    → (perhaps IsLattice lattice ⨾ each IsMap maps ⨾ some (IsModule l) ms) ts [] → text_form l ts
text_has_form l [] lattice maps ts (m1, is, (m2, are, never)) = absurd never
text_has_form l (t ∷ ms) lattice maps ts (m1, is, (m2, are, (m3, first, others))) = (
  m3,
  (
    m1,
    f_perhaps_lattice l lattice ts m1 is
        (next_maps (λ x. IsOver (perhaps_lattice_on x)) maps m1 m2 tt
        (next_module (λ x. IsOver (perhaps_lattice_on x)) l t m2 m3 tt first) are),
    (
      m2,
      f_perhaps_maps l maps m1 m2 are
          (next_module (λ x. IsOver (perhaps_maps_on x)) l t m2 m3 tt first),
      (m3, f_module l t m2 m3 first, refl),
    ),
  ),
  f_each (IsModule l) (one_module_form l) (f_module l) ms m3 [] others,
)

pub form_of_text : (l : Limits) (t : TextTree) (ts : List Placed) → IsText l t ts → text_form l ts
unfolding IsText
form_of_text l t ts is = text_has_form l t.modules t.lattice t.maps ts is

pub text_of_form : (l : Limits) (ts : List Placed) → text_form l ts → (t : TextTree) × IsText l t ts
unfolding IsText
text_of_form l ts (m, (m1, lattice, (m2, maps, (m3, first, same))), (k, others)) =
    let lattice = b_perhaps_lattice l ts m1 lattice in
    let maps = b_perhaps_maps l m1 m2 maps in
    let this = b_module l m2 m3 first in
    let further = b_each (IsModule l) (one_module_form l) (b_module l) k m [] others in (
      record { lattice = lattice.0; maps = maps.0; modules = this.0 ∷ further.0 },
      (
        m1,
        lattice.1,
        (
          m2,
          maps.1,
          (
            m,
            subst (λ us.
                IsModule l this.0 m2 us) same this.1,
            further.1,
          ),
        ),
      ),
    )
