-- How many signals an instance declares.
use Rattle.std.proofs.Common.{◌≡◌, ℕ, suc, ◌+◌, ◌≤◌, Bool, true, false, List, [], ◌∷◌, ◌++◌, length}
use Rattle.std.proofs.Common.{map, refl, sym, ap, ◌∙◌, append_assoc, arith}
use Rattle.std.specs.Prelude.{Result, Ok, Err, not, if◌then◌else◌}
use Rattle.std.specs.List.{filter_map}
use Rattle.std.proofs.lemmas.List.{length-append}
use Rattle.sv_ast.specs.Tree.{DeclarationTree, ParameterTree, ItemTree, parameter_item, declared}
use Rattle.sv_ast.specs.Tree.{ModuleTree}
use Rattle.sv_ast.specs.Instances.{all_items}
use Rattle.sv_ast.specs.Parts.{declarations, declaration_of}
use Rattle.sv_flat.specs.Design.{SignalForm}
use Rattle.sv_elab_rules.specs.Walks.{WalkStep, done, then_walk, ◌>>=◌}
use Rattle.sv_elab_rules.specs.Names.{Names}
use Rattle.sv_elab_rules.specs.Declarations.{Site, Declared, nothing_declared}
use Rattle.sv_elab_rules.specs.Declarations.{declarations_walk}
use Rattle.sv_elab_rules.specs.LabelSteps.{SharedTables, given_label, labels_walk}
use Rattle.sv_elab_decl.proofs.SameSites.{all_declared as each_declared}

-- where the walk ends well, the measure of what it found is this number
record Measures {X : Type 0} (size : X → ℕ) (k : ℕ) (r : Result X WalkStep) : Type 0 where
  says : (x : X) → r ≡ Ok x → size x ≡ k

here : {X : Type 0} (size : X → ℕ) (k : ℕ) (x : X) → size x ≡ k → Measures size k (Ok x)
here size k x h = record { says = λ y e. let same : x ≡ y = cc e in ap size (sym same) ∙ h }

nowhere : {X : Type 0} (size : X → ℕ) (k : ℕ) (s : WalkStep) → Measures size k (Err s)
nowhere size k s = record { says = λ y e. absurd (cc e) }

-- ---- declarations

abbrev count : List ItemTree → ℕ
count items = length (filter_map declaration_of items)

count_parameters : (ps : List ParameterTree) (rest : List ItemTree) →
    count (map parameter_item ps ++ rest) ≡ count rest
count_parameters [] rest = refl
count_parameters (p ∷ ps) rest = count_parameters ps rest

count_ports : (ds : List DeclarationTree) (rest : List ItemTree) →
    count (map declared ds ++ rest) ≡ length ds + count rest
count_ports [] rest = omega arith
count_ports (d ∷ ds) rest =
    let e : count (map declared ds ++ rest) ≡ length ds + count rest = count_ports ds rest in
    omega arith

-- as many signals as declarations
pub all_declared : (base least : ℕ) (s : Site) (m : ModuleTree) (w : Declared)
    → (declarations_walk base least s nothing_declared (all_items m)).end ≡ Ok w
    → length w.signals ≡ length (declarations m)
all_declared base least s m w h =
    let total : length w.signals ≡ 0 + count (all_items m) =
    each_declared base least s (all_items m) nothing_declared w h in
    let items : count (all_items m) ≡ length m.ports + count m.items =
    ap count (append_assoc (map parameter_item m.parameters) (map declared m.ports) m.items)
    ∙ count_parameters m.parameters (map declared m.ports ++ m.items)
    ∙ count_ports m.ports m.items in
    let both : length (declarations m) ≡ length m.ports + count m.items =
    length-append m.ports (filter_map declaration_of m.items) in
    omega arith

-- ---- labels

abbrev how_many : List SignalForm → ℕ
how_many signals = length signals

module _ (tables : SharedTables) (names : Names) where
  labels_counted : (ds : List DeclarationTree) (signals : List SignalForm)
      → Measures how_many (length signals) (labels_walk tables names ds signals).end
  unfolding labels_walk
  labels_counted [] signals = here _ _ signals refl
  labels_counted (d ∷ ds) [] = here how_many 0 [] refl
  labels_counted (d ∷ ds) (s ∷ signals) =
      by (given_label tables names d.label s).end (labels_walk tables names ds signals).end
      (labels_counted ds signals)
    where
      second : (first : SignalForm) (r : Result (List SignalForm) WalkStep)
          → Measures how_many (length signals) r
          → Measures how_many (length (s ∷ signals))
          (then_walk (labels_walk tables names ds signals).passed r (λ rest.
          done (first ∷ rest))).end
      second first (Ok rest) h = here _ _ (first ∷ rest) (ap suc (h.says rest refl))
      second first (Err t) h = nowhere _ _ t

      by : (a : Result SignalForm WalkStep) (b : Result (List SignalForm) WalkStep)
          → Measures how_many (length signals) b
          → Measures how_many (length (s ∷ signals))
          (then_walk (given_label tables names d.label s).passed a
          (λ first. record { passed = (labels_walk tables names ds signals).passed; end = b }
          >>= λ rest. done (first ∷ rest))).end
      by (Ok first) b h = second first b h
      by (Err t) b h = nowhere _ _ t

  pub labels_length : (ds : List DeclarationTree) (signals after : List SignalForm)
      → (labels_walk tables names ds signals).end ≡ Ok after → length after ≡ length signals
  labels_length ds signals after h = (labels_counted ds signals).says after h

-- ---- signals put behind others, or not

pub few_either : {X : Type 0} (b : Bool) (xs ys zs : List X) (n : ℕ)
    → zs ≡ (if b then xs ++ ys else xs)
    → length xs + length ys ≤ n → length zs ≤ n
few_either true xs ys zs n is few =
    let e : length zs ≡ length xs + length ys = ap length is ∙ length-append xs ys in omega arith
few_either false xs ys zs n is few = let e : length zs ≡ length xs = ap length is in omega arith
