-- How what is read behind `assign` is put together.
use Rattle.std.proofs.Common.{List, [], ◌∷◌, sym, subst, inl, inr}
use Rattle.sv_token.specs.Lexemes.{Placed}
use Rattle.sv_token.specs.declared.signs.SignKind.TheVariants as signs
use Rattle.sv_token.specs.declared.keywords.WordKind.TheVariants as words
use Rattle.sv_ast.specs.Tree.{TargetTree, PlacedName, ItemTree, parameter_item, declared}
use Rattle.sv_ast.specs.Tree.{memory_item, continuous, released, always_item, invariant_item}
use Rattle.sv_ast.specs.Tree.{instance_item}
use Rattle.sv_ast.specs.GrammarForms.{◌or◌, a_sign, a_word}
use Rattle.sv_ast.specs.GrammarStatements.{AreTargets, only}
use Rattle.sv_ast.specs.GrammarModules.{IsPlacedName, IsWholeTarget, IsContinuous, AreContinuous}
use Rattle.sv_ast.specs.GrammarModules.{IsReleased}
use Rattle.sv_ast.specs.GrammarRules.{all_limits}
use Rattle.sv_parse_stmt.specs.ReadingAssignments.{AssignsTo, ReleasesAs, IsReleaseEnd, IsAssignEnd}

pub continuous_is :
    (item : ItemTree) (targets : List TargetTree) (ts a b rest : List Placed) →
    AreTargets IsWholeTarget targets ts a → a_sign signs.Equals a b →
    AssignsTo targets item b rest → IsContinuous all_limits item ts rest
continuous_is (continuous us p e) targets ts a b rest are eq h = (
  h.0.1,
  (
    a,
    subst (λ (x : List TargetTree).
        AreTargets IsWholeTarget x ts a) (sym h.0.0) are,
    (b, eq, h.1),
  ),
)
continuous_is (parameter_item q) targets ts a b rest are eq h = absurd h
continuous_is (declared d) targets ts a b rest are eq h = absurd h
continuous_is (memory_item m) targets ts a b rest are eq h = absurd h
continuous_is (released t e p) targets ts a b rest are eq h = absurd h
continuous_is (always_item p k s) targets ts a b rest are eq h = absurd h
continuous_is (invariant_item p e) targets ts a b rest are eq h = absurd h
continuous_is (instance_item i) targets ts a b rest are eq h = absurd h

pub release_is :
    (item : ItemTree) (target : PlacedName) (ts a b d rest : List Placed) →
    IsPlacedName target ts a → a_sign signs.Equals a b → a_word words.Release b d →
    ReleasesAs target item d rest → IsReleaseEnd item ts rest
release_is (released t e p) target ts a b d rest name eq word h =
    (a, subst (λ (x : PlacedName). IsPlacedName x ts a) (sym h.0) name, (b, eq, (d, word, h.1)))
release_is (parameter_item q) target ts a b d rest name eq word h = absurd h
release_is (declared g) target ts a b d rest name eq word h = absurd h
release_is (memory_item m) target ts a b d rest name eq word h = absurd h
release_is (continuous us p e) target ts a b d rest name eq word h = absurd h
release_is (always_item p k s) target ts a b d rest name eq word h = absurd h
release_is (invariant_item p e) target ts a b d rest name eq word h = absurd h
release_is (instance_item i) target ts a b d rest name eq word h = absurd h

released_is : (item : ItemTree) (ts a rest : List Placed) → a_word words.Assign ts a →
    IsReleaseEnd item a rest → IsReleased all_limits item ts rest
released_is (released t e p) ts a rest word h = (a, word, h)
released_is (parameter_item q) ts a rest word h = absurd h
released_is (declared g) ts a rest word h = absurd h
released_is (memory_item m) ts a rest word h = absurd h
released_is (continuous us p e) ts a rest word h = absurd h
released_is (always_item p k s) ts a rest word h = absurd h
released_is (invariant_item p e) ts a rest word h = absurd h
released_is (instance_item i) ts a rest word h = absurd h

only_released : (items : List ItemTree) (ts a rest : List Placed) → a_word words.Assign ts a →
    only IsReleaseEnd items a rest → only (IsReleased all_limits) items ts rest
only_released [] ts a rest word h = absurd h
only_released (item ∷ []) ts a rest word h = released_is item ts a rest word h
only_released (item ∷ other ∷ items) ts a rest word h = absurd h

pub assigned_is :
    (items : List ItemTree) (ts a rest : List Placed) → a_word words.Assign ts a →
    IsAssignEnd items a rest →
    (AreContinuous all_limits items or only (IsReleased all_limits) items) ts rest
assigned_is items ts a rest word (inl h) = inl (a, word, h)
assigned_is items ts a rest word (inr h) = inr (only_released items ts a rest word h)
