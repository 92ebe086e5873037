-- Modules by name, and the names of their instances.
use Rattle.std.proofs.Common.{◌≡◌, ℕ, zero, suc, ◌<◌, Bool, true, false, not, List, [], ◌∷◌, ◌++◌}
use Rattle.std.proofs.Common.{length, map, filter, position, get_or, Option, Some, None, refl, sym}
use Rattle.std.proofs.Common.{ap, ◌∙◌, subst, append_assoc, arith}
use Rattle.std.specs.Prelude.{Ok, Err, option_to_list, if◌then◌else◌}
use Rattle.std.specs.List.{filter_map, list_any, flat_map}
use Rattle.std.specs.Str.{bytes_eq}
use Rattle.indexmap.specs.IndexSet.{insert_key}
use Rattle.std.proofs.lemmas.List.{length-map}
use Rattle.std.proofs.lemmas.List.Quantifiers.{position-Some}
use Rattle.std.proofs.lemmas.Bool.{or_parts}
use Rattle.sv_ast.specs.declared.modules.Module.{Module}
use Rattle.sv_ast.specs.Tree.{InstanceTree, ItemTree, ModuleTree}
use Rattle.sv_ast.specs.Instances.{instance_of, module_named, only, masters}
use Rattle.sv_ast.specs.Views.{module_tree}
use Rattle.sv_elab_rules.specs.Walks.{ask, ◌>>=◌}
use Rattle.sv_elab_rules.specs.Rules.{twice}
use Rattle.sv_elab_rules.specs.Texts.{module_names}
use Rattle.sv_elab_rules.specs.Lattices.{is_point}
use Rattle.sv_elab.specs.Modules.{names_of, is_apart_from}

-- the names of the modules of the instances among some items
abbrev pub masters_in : List ItemTree → List (List ℕ)
masters_in items = map (λ (i : InstanceTree). i.master) (filter_map instance_of items)

-- ---- no name twice

pub twice_end : (keys : List (List ℕ)) (m : ModuleTree) (ms : List ModuleTree)
    → not (is_point keys m.name) ≡ false
    → (module_names keys (m ∷ ms)).end ≡ Err (twice m.place m.name)
unfolding module_names
twice_end keys m ms h = rw h refl

pub fresh_end : (keys : List (List ℕ)) (m : ModuleTree) (ms : List ModuleTree)
    → not (is_point keys m.name) ≡ true
    → (module_names keys (m ∷ ms)).end ≡ (module_names (insert_key bytes_eq keys m.name) ms).end
unfolding module_names
fresh_end keys m ms h = by (is_point keys m.name) refl h
  where
    by : (b : Bool) → is_point keys m.name ≡ b → not b ≡ true
        → (ask (not b) (twice m.place m.name) >>= λ _. module_names (keys ++ m.name ∷ []) ms).end
        ≡ (module_names (if b then keys else keys ++ m.name ∷ []) ms).end
    by true e k = absurd (cc k)
    by false e k = refl

pub none_end : (keys : List (List ℕ)) → (module_names keys []).end ≡ Ok tt
unfolding module_names
none_end keys = refl

pub fresh_key : (keys : List (List ℕ)) (m : List ℕ) (rest all : List (List ℕ))
    → not (is_point keys m) ≡ true
    → keys ++ m ∷ rest ≡ all → insert_key bytes_eq keys m ++ rest ≡ all
fresh_key keys m rest all h are = by (is_point keys m) h
  where
    by : (b : Bool) → not b ≡ true → (if b then keys else keys ++ m ∷ []) ++ rest ≡ all
    by true k = absurd (cc k)
    by false k = append_assoc keys (m ∷ []) rest ∙ are

-- ---- a module by its name

found_at : (n : List ℕ) (ms : List Module) (i : ℕ) (m : Module) → i < length ms
    → bytes_eq n (get_or (names_of ms) i []) ≡ true
    → ((k : ℕ) → k < i → bytes_eq n (get_or (names_of ms) k []) ≡ false)
    → module_named (map module_tree ms) n ≡ Some (module_tree (get_or ms i m))
found_at n [] i m p h before = absurd (omega arith)
found_at n (x ∷ xs) zero m p h before =
    ap (λ (b : Bool). if b then Some (module_tree x) else module_named (map module_tree xs) n) h
found_at n (x ∷ xs) (suc i) m p h before =
    ap (λ (b : Bool). if b then Some (module_tree x) else module_named (map module_tree xs) n)
    (before 0 (omega arith))
    ∙ found_at n xs i m (omega arith) h (λ k q. before (suc k) (omega arith))

pub named_there : (n : List ℕ) (ms : List Module) (i : ℕ) (m : Module)
    → position (bytes_eq n) (names_of ms) ≡ Some i → m ≡ get_or ms i m
    → module_named (map module_tree ms) n ≡ Some (module_tree m)
named_there n ms i m at is =
    let first = position-Some (bytes_eq n) (names_of ms) i [] at in
    let within : i < length ms =
    subst (λ k. i < k) (length-map ms (λ (x : Module). x.name)) first.0 in
    found_at n ms i m within first.1 first.2 ∙ ap (λ (x : Module). Some (module_tree x)) (sym is)

pub named_nowhere : (n : List ℕ) (ms : List Module) → list_any (bytes_eq n) (names_of ms) ≡ false
    → module_named (map module_tree ms) n ≡ None
named_nowhere n [] none = refl
named_nowhere n (x ∷ xs) none =
    let parts : (bytes_eq n x.name ≡ false) × (list_any (bytes_eq n) (names_of xs) ≡ false) =
    or_parts (bytes_eq n x.name) (list_any (bytes_eq n) (names_of xs)) none in
    ap (λ (b : Bool). if b then Some (module_tree x) else module_named (map module_tree xs) n)
    parts.0 ∙ named_nowhere n xs parts.1

-- ---- the only one

pub passed_over : (keys : List (List ℕ)) (found : Option ModuleTree) (m : ModuleTree)
    (ms : List ModuleTree) → is_point keys m.name ≡ true
    → option_to_list found ++ filter (is_apart_from keys) (m ∷ ms) ≡
    option_to_list found ++ filter (is_apart_from keys) ms
passed_over keys found m ms h =
    ap (λ (b : Bool). option_to_list found ++ (if not b then m ∷ filter (is_apart_from keys) ms
    else filter (is_apart_from keys) ms)) h

pub first_other : (keys : List (List ℕ)) (m : ModuleTree) (ms : List ModuleTree)
    → is_point keys m.name ≡ false
    → option_to_list None ++ filter (is_apart_from keys) (m ∷ ms) ≡
    option_to_list (Some m) ++ filter (is_apart_from keys) ms
first_other keys m ms h =
    ap (λ (b : Bool). if not b then m ∷ filter (is_apart_from keys) ms
    else filter (is_apart_from keys) ms) h

pub second_other : (keys : List (List ℕ)) (f m : ModuleTree) (ms : List ModuleTree)
    → is_point keys m.name ≡ false
    → only (option_to_list (Some f) ++ filter (is_apart_from keys) (m ∷ ms)) ≡ None
second_other keys f m ms h =
    ap (λ (b : Bool). only (f ∷ (if not b then m ∷ filter (is_apart_from keys) ms
    else filter (is_apart_from keys) ms))) h

pub only_found : (found : Option ModuleTree) → only (option_to_list found ++ []) ≡ found
only_found None = refl
only_found (Some m) = refl

-- where the same names are among both lists, the same modules are apart from them
pub same_others : (keys : List (List ℕ)) (modules ms : List ModuleTree)
    → ((n : List ℕ) → list_any (bytes_eq n) keys ≡ list_any (bytes_eq n) (flat_map masters modules))
    → filter (is_apart_from keys) ms ≡ filter (λ (m : ModuleTree).
    not (list_any (bytes_eq m.name) (flat_map masters modules))) ms
same_others keys modules [] same = refl
same_others keys modules (m ∷ ms) same =
    ap (λ (b : Bool). if not b then m ∷ filter (is_apart_from keys) ms
    else filter (is_apart_from keys) ms) (same m.name)
    ∙ ap (λ rest. if not (list_any (bytes_eq m.name) (flat_map masters modules)) then m ∷ rest
    else rest) (same_others keys modules ms same)
