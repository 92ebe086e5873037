-- Modules as lists of declarations.
use Rattle.std.proofs.Common.{◌≡◌, ℕ, Bool, true, false, ◌||◌, List, [], ◌∷◌, ◌++◌, map, refl, sym}
use Rattle.std.proofs.Common.{ap, ◌∙◌}
use Rattle.std.specs.Prelude.{◌&&◌, Ok, Err, if◌then◌else◌}
use Rattle.std.specs.List.{list_any, list_all}
use Rattle.std.specs.Str.{bytes_eq}
use Rattle.std.proofs.lemmas.Bool.{and_parts}
use Rattle.std.proofs.lemmas.List.Folds.{list_any-append}
use Rattle.std.proofs.lemmas.Slice.Eq.{bytes_eq-Decides}
use Rattle.indexmap.specs.IndexSet.{insert_key}
use Rattle.sv_ast.specs.declared.declarations.Decl.{Decl}
use Rattle.sv_ast.specs.declared.declarations.Param.{Param}
use Rattle.sv_ast.specs.declared.modules.Item.{Item}
use Rattle.sv_ast.specs.declared.modules.Item.TheVariants as item
use Rattle.sv_ast.specs.Tree.{ParameterTree, ItemTree, parameter_item}
use Rattle.sv_ast.specs.Tree.{ModuleTree}
use Rattle.sv_ast.specs.Shape.{are_header_parameters, is_shaped_parameter, are_ports}
use Rattle.sv_ast.specs.Shape.{is_shaped_declaration, is_shaped_item, is_shaped_module}
use Rattle.sv_ast.specs.Views.{item_tree, parameter_tree, declaration_tree}
use Rattle.sv_ast.specs.Instances.{all_items}
use Rattle.sv_elab_rules.specs.Walks.{WalkStep}
use Rattle.sv_elab_rules.specs.Names.{item_declares}
use Rattle.sv_elab_rules.specs.Declarations.{Site, Declared as WalkDeclared, nothing_declared}
use Rattle.sv_elab_rules.specs.Declarations.{parameter_walk, signal_walk, declaration_walk}
use Rattle.sv_elab_rules.specs.Declarations.{declarations_walk}
use Rattle.sv_elab_decl.specs.Sites.{header_items}
use Rattle.sv_elab_decl.proofs.Courses.{end_in_two, end_stopped}

-- ---- names announced

-- a name more, where it is new
after_insert : (keys : List (List ℕ)) (m n : List ℕ) (b : Bool) → list_any (bytes_eq m) keys ≡ b
    → list_any (bytes_eq n) (if b then keys else keys ++ m ∷ []) ≡
    (list_any (bytes_eq n) keys || bytes_eq n m)
after_insert keys m n true known = by (bytes_eq n m) refl
  where
    or_true : (a : Bool) → (a || true) ≡ true
    or_true true = refl
    or_true false = refl

    or_false : (a : Bool) → a ≡ (a || false)
    or_false true = refl
    or_false false = refl

    by : (b : Bool) → bytes_eq n m ≡ b
        → list_any (bytes_eq n) keys ≡ (list_any (bytes_eq n) keys || b)
    by true e =
        ap (λ (k : List ℕ). list_any (bytes_eq k) keys) ((bytes_eq-Decides n m).0 e) ∙ known
        ∙ sym (or_true (list_any (bytes_eq n) keys))
    by false e = or_false (list_any (bytes_eq n) keys)
after_insert keys m n false known =
    list_any-append (bytes_eq n) keys (m ∷ []) ∙ or_end (list_any (bytes_eq n) keys) (bytes_eq n m)
  where
    or_end : (a b : Bool) → (a || (b || false)) ≡ (a || b)
    or_end true b = refl
    or_end false true = refl
    or_end false false = refl

pub announced_more : (keys : List (List ℕ)) (m n : List ℕ)
    → list_any (bytes_eq n) (insert_key bytes_eq keys m) ≡
    (list_any (bytes_eq n) keys || bytes_eq n m)
announced_more keys m n = after_insert keys m n (list_any (bytes_eq m) keys) refl

or_assoc : (a b c : Bool) → ((a || b) || c) ≡ (a || (b || c))
or_assoc true b c = refl
or_assoc false b c = refl

-- a name more on one side is one less on the other
pub moved : (a b c d : Bool) → d ≡ (a || b) → (d || c) ≡ (a || (b || c))
moved a b c d h = ap (λ (x : Bool). x || c) h ∙ or_assoc a b c

-- a parameter is no signal
pub parameters_announce_none : (n : List ℕ) (ps : List ParameterTree) (rest : List ItemTree)
    → list_any (item_declares n) (map parameter_item ps ++ rest) ≡ list_any (item_declares n) rest
parameters_announce_none n [] rest = refl
parameters_announce_none n (p ∷ ps) rest = parameters_announce_none n ps rest

or_none : (a : Bool) → a ≡ (a || false)
or_none true = refl
or_none false = refl

-- what is no declaration declares no name
pub undeclared : (n : List ℕ) (a : Bool) (i : Item) → ((d : Decl) → i ≡ item.Decl d → ⊥)
    → a ≡ (a || item_declares n (item_tree i))
undeclared n a (item.Param p) other = or_none a
undeclared n a (item.Decl d) other = absurd (other d refl)
undeclared n a (item.Memory m) other = or_none a
undeclared n a (item.Assign ts p e) other = or_none a
undeclared n a (item.Release t p e k q) other = or_none a
undeclared n a (item.Always p k s) other = or_none a
undeclared n a (item.Invariant p e) other = or_none a
undeclared n a (item.Instance i) other = or_none a

-- ---- items one by one

module _ (base least : ℕ) (s : Site) (d : WalkDeclared) where
  pub item_parameter : (i : Item) (p : Param) → i ≡ item.Param p
      → (declaration_walk base least s d (item_tree i)).end ≡
      (parameter_walk base s d (parameter_tree p)).end
  unfolding declaration_walk
  item_parameter i p is = ap (λ (j : Item). (declaration_walk base least s d (item_tree j)).end) is

  pub item_signal : (i : Item) (t : Decl) → i ≡ item.Decl t
      → (declaration_walk base least s d (item_tree i)).end ≡
      (signal_walk base least s d (declaration_tree t)).end
  unfolding declaration_walk
  item_signal i t is = ap (λ (j : Item). (declaration_walk base least s d (item_tree j)).end) is

  pub item_other : (i : Item) → ((p : Param) → i ≡ item.Param p → ⊥)
      → ((t : Decl) → i ≡ item.Decl t → ⊥)
      → (declaration_walk base least s d (item_tree i)).end ≡ Ok d
  unfolding declaration_walk
  item_other (item.Param p) first second = absurd (first p refl)
  item_other (item.Decl t) first second = absurd (second t refl)
  item_other (item.Memory m) first second = refl
  item_other (item.Assign ts p e) first second = refl
  item_other (item.Release t p e k q) first second = refl
  item_other (item.Always p k st) first second = refl
  item_other (item.Invariant p e) first second = refl
  item_other (item.Instance i) first second = refl

-- ---- modules

-- the parts of a shaped module are shaped: its parameters, its ports and its items
shaped_parts : (m : ModuleTree) → is_shaped_module m ≡ true
    → (list_all is_shaped_parameter m.parameters ≡ true)
    × (list_all is_shaped_declaration m.ports ≡ true)
    × (list_all is_shaped_item m.items ≡ true)
shaped_parts m h =
    let a = and_parts (are_header_parameters m.parameters
    && list_all is_shaped_parameter m.parameters
    && are_ports m.ports
    && list_all is_shaped_declaration m.ports) (list_all is_shaped_item m.items) h in
    let b = and_parts (are_header_parameters m.parameters
    && list_all is_shaped_parameter m.parameters
    && are_ports m.ports) (list_all is_shaped_declaration m.ports) a.0 in
    let c = and_parts (are_header_parameters m.parameters
    && list_all is_shaped_parameter m.parameters)
    (are_ports m.ports) b.0 in
    let d = and_parts (are_header_parameters m.parameters)
    (list_all is_shaped_parameter m.parameters) c.0 in
    (d.1, b.1, a.1)

pub shaped_parameters : (m : ModuleTree) → is_shaped_module m ≡ true
    → list_all is_shaped_parameter m.parameters ≡ true
shaped_parameters m h = (shaped_parts m h).0

pub shaped_ports : (m : ModuleTree) → is_shaped_module m ≡ true
    → list_all is_shaped_declaration m.ports ≡ true
shaped_ports m h = (shaped_parts m h).1

pub shaped_items : (m : ModuleTree) → is_shaped_module m ≡ true →
    list_all is_shaped_item m.items ≡ true
shaped_items m h = (shaped_parts m h).2

-- where the header breaks a rule, the whole does
pub header_broken : (base least : ℕ) (s : Site) (t : WalkStep)
    → (declarations_walk base least s nothing_declared (header_items s.master)).end ≡ Err t
    → (declarations_walk base least s nothing_declared (all_items s.master)).end ≡ Err t
header_broken base least s t h =
    end_stopped base least s (header_items s.master) s.master.items nothing_declared t h

-- after the header the items follow
pub header_passed : (base least : ℕ) (s : Site) (d : WalkDeclared)
    → (declarations_walk base least s nothing_declared (header_items s.master)).end ≡ Ok d
    → (declarations_walk base least s nothing_declared (all_items s.master)).end
    ≡ (declarations_walk base least s d s.master.items).end
header_passed base least s d h =
    end_in_two base least s (header_items s.master) s.master.items nothing_declared d h
