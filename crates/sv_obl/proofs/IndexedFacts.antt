-- Statements in indexed go as the statements that they are made from.
use Rattle.std.proofs.Common.{◌≡◌, ℕ, zero, suc, ◌+◌, ◌-◌, ◌<◌, ◌≤◌, Bool, true, false, cond, ◌&&◌}
use Rattle.std.proofs.Common.{◌||◌, List, [], ◌∷◌, ◌++◌, map, fold, length, get_or, All}
use Rattle.std.proofs.Common.{nat_cmp, nat_lt, Less, Equal, Greater, not, ⊎_elim, ◌==◌, eqb-true}
use Rattle.std.proofs.Common.{Option, Some, None, refl, sym, ap, ap₂, subst, ◌∙◌, length-append}
use Rattle.std.proofs.Common.{arith, take, add-one, BTreeSet, Ordering}
use Rattle.std.proofs.Math.Seq.{take-suc}
use Rattle.std.proofs.lemmas.List.{map-append}
use Rattle.std.proofs.lemmas.List.Folds.{list_any-append}
use Rattle.std.proofs.lemmas.List.Quantifiers.{position-Some}
use Rattle.std.specs.Prelude.{IsTrue, IsFalse, IsSome, Contains}
use Rattle.std.specs.BTreeMap.{BTreeMap, get, keys, is_at, Updates}
use Rattle.std.specs.BTreeSet.{insert_key, contains}
use Rattle.std.specs.Global.{Vec}
use Rattle.std.specs.List.{list_any}
use Rattle.std.specs.Map.{lookup}
use Rattle.std.specs.Ordering.{match_ordering, is_eq}
use Rattle.std.proofs.lemmas.Bool.{false≢true, eq-eqb}
use Rattle.std.proofs.lemmas.Cmp.{nat_cmp_total}
use Rattle.std.proofs.lemmas.List.Elements.{All-nil, All-push}
use Rattle.std.proofs.lemmas.Map.Lookups.{exact_unsigned}
use Rattle.std.proofs.lemmas.Map.Views.{btree_set_contains_iff, btree_map_contains_key_iff}
use Rattle.sv_system.proofs.Lists.{Contains-head, Contains-later, Contains-cases, Contains-nil}
use Rattle.sv_num.specs.declared.faults.Place.{Place}
use Rattle.sv_flat.specs.Design.{SignalForm, TypedTree, PieceForm, ProcessForm, FlatStatement}
use Rattle.sv_flat.specs.Design.{nothing, after, assign, branch, FlatDesign}
use Rattle.sv_flat.specs.Clocks.{processes_of}
use Rattle.sv_flat.specs.SignalLists.{driver_of}
use Rattle.sv_flat.specs.Views.{process_form, flat_statement, typed_tree, chain_of}
use Rattle.sv_flat.specs.declared.designs.Process.{Process}
use Rattle.sv_flat.specs.Assigned.{assigns}
use Rattle.sv_flat.proofs.Members.{Contains-left, Contains-right}
use Rattle.sv_obl.specs.declared.body_slices.BodySlice.{BodySlice}
use Rattle.sv_obl.specs.declared.body_slices.BodySlice as slice
use Rattle.sv_obl.specs.declared.indexed.Indexed.{Indexed, Row_of-Indexed, end_of-Indexed, more_of-Indexed}
use Rattle.sv_obl.specs.declared.indexed.Indexed.{items-the_row-Indexed, items_hidden-the_row-Indexed-0}
use Rattle.sv_obl.specs.declared.indexed.Indexed.TheBlock.{hidden-the_row-Indexed-0}
use Rattle.sv_obl.specs.declared.indexed.Indexed as indexed
use Rattle.sv_obl.specs.SliceRoutes.{IsSliceOf, AreSlicesOf, EndsIn}
use Rattle.sv_obl.specs.BodySlices.{sliced, in_sequence}
use Rattle.sv_obl.specs.Routes.{RouteForm, routes_before}
use Rattle.sv_obl.specs.IndexedBodies.{numbers_found, numbers_at, chosen, looked_up}
use Rattle.sv_obl.specs.IndexedBodies.{parts_looked_up, IsIndexed, AreIndexed}
use Rattle.sv_obl.specs.IndexedStatements.{statement_of, row_statements, targets_in}
use Rattle.sv_obl.specs.IndexedStatements.{ends_in, with_number, numbered, GoesFor, Tells}
use Rattle.sv_obl.specs.IndexedStatements.{IsMarked, AreMarked, Same, IsMadeOf, whole_of, SoFar}
use Rattle.sv_obl.specs.IndexedStatements.{Covers}
use Rattle.sv_obl.specs.Views.{piece_forms}
use Rattle.sv_obl.proofs.FormLists.{forms_more}
use Rattle.sv_obl.proofs.SliceChains.{none_ends, no_slices, more_slices, taken_as_one}
use Rattle.sv_obl.proofs.SliceFacts.{slice_is_empty, stays, same_slice_routes}

-- ---- tests

or_none : (b : Bool) → (b || false) ≡ b
or_none true = refl
or_none false = refl

or_of : (a b c : Bool) → ((a || b) || c) ≡ (a || (b || c))
or_of true b c = refl
or_of false b c = refl

-- ---- for one target

goes_itself : (s : ℕ) (a : FlatStatement) → GoesFor s a a
goes_itself s a = record { assigned = refl; parts = λ rest. refl }

goes_then : (s : ℕ) (a b c : FlatStatement) → GoesFor s a b → GoesFor s b c → GoesFor s a c
goes_then s a b c one two = record {
  assigned = one.assigned ∙ two.assigned;
  parts = λ rest. one.parts rest ∙ two.parts rest;
}

goes_after : (s : ℕ) (a b x y : FlatStatement) → GoesFor s a x → GoesFor s b y
    → GoesFor s (after a b) (after x y)
goes_after s a b x y one two = record {
  assigned = ap₂ (λ m n. m || n) one.assigned two.assigned;
  parts = λ rest.
      one.parts (in_sequence (sliced s b) rest) ∙ ap (in_sequence (sliced s x)) (two.parts rest);
}

-- what does not assign the target leaves the rest as it is
passes : (s : ℕ) (a x : FlatStatement) → IsFalse (assigns x s) → GoesFor s (after a x) a
passes s a x none = record {
  assigned = ap (λ m. assigns a s || m) none ∙ or_none (assigns a s);
  parts = λ rest. ap (in_sequence (sliced s a)) (slice_is_empty s x none rest);
}

-- the parts of a slice that is a branch, or nothing
arms_in_sequence : (c : Bool) (place : Place) (condition : TypedTree) (a b rest : FlatStatement)
    → in_sequence (cond c (branch place condition a b) nothing) rest
    ≡ cond c (after (branch place condition (in_sequence a nothing) (in_sequence b nothing)) rest)
    rest
arms_in_sequence true place condition a b rest = refl
arms_in_sequence false place condition a b rest = refl

goes_branch : (s : ℕ) (place : Place) (condition : TypedTree) (a b x y : FlatStatement)
    → GoesFor s a x → GoesFor s b y
    → GoesFor s (branch place condition a b) (branch place condition x y)
goes_branch s place condition a b x y one two = record {
  assigned = ap₂ (λ m n. m || n) one.assigned two.assigned;
  parts = λ rest.
      arms_in_sequence (assigns a s || assigns b s) place condition (sliced s a) (sliced s b) rest
      ∙ ap₂ (λ (u v : FlatStatement). cond (assigns a s || assigns b s)
      (after (branch place condition u v) rest) rest) (one.parts nothing) (two.parts nothing)
      ∙ ap₂ (λ m n. cond (m || n) (after (branch place condition
      (in_sequence (sliced s x) nothing) (in_sequence (sliced s y) nothing)) rest) rest)
      one.assigned two.assigned
      ∙ sym (arms_in_sequence (assigns x s || assigns y s) place condition (sliced s x)
      (sliced s y) rest);
}

-- ---- for every target

for_target : (a b : FlatStatement) → Same a b → (s : ℕ) → GoesFor s a b
for_target a b same s = record {
  assigned = same.assigned s;
  parts = same.parts s;
}

for_all_targets : (a b : FlatStatement) → ((s : ℕ) → GoesFor s a b) → Same a b
for_all_targets a b goes = record {
  assigned = λ s. (goes s).assigned;
  parts = λ s. (goes s).parts;
}

pub same_itself : (a : FlatStatement) → Same a a
same_itself a = record { assigned = λ s. refl; parts = λ s rest. refl }

pub same_back : (a b : FlatStatement) → Same a b → Same b a
same_back a b h = record {
  assigned = λ s. sym (h.assigned s);
  parts = λ s rest. sym (h.parts s rest);
}

pub same_then : (a b c : FlatStatement) → Same a b → Same b c → Same a c
same_then a b c one two =
    for_all_targets a c (λ s. goes_then s a b c (for_target a b one s) (for_target b c two s))

pub same_after : (a b x y : FlatStatement) → Same a x → Same b y → Same (after a b) (after x y)
same_after a b x y one two =
    for_all_targets (after a b) (after x y)
    (λ s. goes_after s a b x y (for_target a x one s) (for_target b y two s))

pub same_branch : (place : Place) (condition : TypedTree) (a b x y : FlatStatement)
    → Same a x → Same b y → Same (branch place condition a b) (branch place condition x y)
same_branch place condition a b x y one two =
    for_all_targets (branch place condition a b) (branch place condition x y)
    (λ s. goes_branch s place condition a b x y (for_target a x one s) (for_target b y two s))

pub regrouped : (a b c : FlatStatement) → Same (after (after a b) c) (after a (after b c))
regrouped a b c = record {
  assigned = λ s. or_of (assigns a s) (assigns b s) (assigns c s);
  parts = λ s rest. refl;
}

pub nothing_first : (a : FlatStatement) → Same (after nothing a) a
nothing_first a = record { assigned = λ s. refl; parts = λ s rest. refl }

pub nothing_last : (a : FlatStatement) → Same (after a nothing) a
nothing_last a = record { assigned = λ s. or_none (assigns a s); parts = λ s rest. refl }

-- ---- one more

one_after : (xs : List FlatStatement) (x : FlatStatement)
    → Same (chain_of (xs ++ x ∷ [])) (after (chain_of xs) x)
one_after [] x =
    same_then (after x nothing) x (after nothing x) (nothing_last x)
    (same_back (after nothing x) x (nothing_first x))
one_after (y ∷ xs) x =
    let rest = chain_of xs in
    let all = chain_of (xs ++ x ∷ []) in
    same_then (after y all) (after y (after rest x)) (after (after y rest) x)
    (same_after y all y (after rest x) (same_itself y) (one_after xs x))
    (same_back (after (after y rest) x) (after y (after rest x)) (regrouped y rest x))

pub pushed : (old new : List Indexed) (x : Indexed) → new ≡ old ++ x ∷ []
    → Same (whole_of new) (after (whole_of old) (statement_of x))
pushed old new x items =
    subst (λ (xs : List FlatStatement).
    Same (chain_of xs) (after (whole_of old) (statement_of x)))
    (sym (ap (map statement_of) items ∙ map-append statement_of old (x ∷ [])))
    (one_after (map statement_of old) (statement_of x))

one_taken : {X : Type 0} (xs : List X) (i : ℕ) (d x : X) → i < length xs → get_or xs i d ≡ x
    → take (i + 1) xs ≡ take i xs ++ x ∷ []
one_taken xs i d x inside is =
    ap (λ k. take k xs) (add-one i) ∙ take-suc xs i d inside
    ∙ ap (λ y. take i xs ++ y ∷ []) is

-- ---- what is assigned

kept : (ks : List ℕ) (k s : ℕ) → Contains ks s → Contains (insert_key nat_cmp ks k) s
kept [] k s at = absurd (Contains-nil s at)
kept (a ∷ ks) k s at = by_order (λ inside. kept ks k s inside) (nat_cmp k a)
  where
    by_order : (Contains ks s → Contains (insert_key nat_cmp ks k) s) → (o : Ordering) → Contains
        (match_ordering o (k ∷ a ∷ ks) (a ∷ ks) (a ∷ insert_key nat_cmp ks k)) s
    by_order rest Less = Contains-later k (a ∷ ks) s at
    by_order rest Equal = at
    by_order rest Greater = ⊎_elim
        (λ e. subst (Contains (a ∷ insert_key nat_cmp ks k)) e
        (Contains-head a (insert_key nat_cmp ks k)))
        (λ inside. Contains-later a (insert_key nat_cmp ks k) s (rest inside))
        (Contains-cases a ks s at)

put_there : (ks : List ℕ) (k : ℕ) → Contains (insert_key nat_cmp ks k) k
put_there [] k = Contains-head k []
put_there (a ∷ ks) k = by_order (put_there ks k) (nat_cmp k a) refl
  where
    by_order : Contains (insert_key nat_cmp ks k) k → (o : Ordering) → nat_cmp k a ≡ o → Contains
        (match_ordering o (k ∷ a ∷ ks) (a ∷ ks) (a ∷ insert_key nat_cmp ks k)) k
    by_order rest Less is = Contains-head k (a ∷ ks)
    by_order rest Equal is =
        subst (Contains (a ∷ ks)) (sym (exact_unsigned k a is)) (Contains-head a ks)
    by_order rest Greater is = Contains-later a (insert_key nat_cmp ks k) k rest

folded : (xs ks : List ℕ) (s : ℕ) → Contains ks s → Contains (fold (insert_key nat_cmp) ks xs) s
folded [] ks s at = at
folded (x ∷ xs) ks s at = folded xs (insert_key nat_cmp ks x) s (kept ks x s at)

all_put : (xs ks : List ℕ) (s : ℕ) → Contains xs s → Contains (fold (insert_key nat_cmp) ks xs) s
all_put [] ks s at = absurd (Contains-nil s at)
all_put (x ∷ xs) ks s at = ⊎_elim
    (λ e. subst (Contains (fold (insert_key nat_cmp) ks (x ∷ xs))) e
    (folded xs (insert_key nat_cmp ks x) x (put_there ks x)))
    (λ inside. all_put xs (insert_key nat_cmp ks x) s inside)
    (Contains-cases x xs s at)

among_pieces : (pieces : List PieceForm) (s : ℕ)
    → IsTrue (list_any (λ (piece : PieceForm). piece.signal == s) pieces)
    → Contains (map (λ (piece : PieceForm). piece.signal) pieces) s
among_pieces [] s h = absurd (false≢true h)
among_pieces (piece ∷ pieces) s h =
    by_test (λ more. among_pieces pieces s more) (piece.signal == s) refl
  where
    others : Bool
    others = list_any (λ (other : PieceForm). other.signal == s) pieces

    signals : List ℕ
    signals = map (λ (other : PieceForm). other.signal) pieces

    by_test : (IsTrue others → Contains signals s) → (b : Bool) → (piece.signal == s) ≡ b
        → Contains (piece.signal ∷ signals) s
    by_test rest true is = subst (Contains (piece.signal ∷ signals)) (eqb-true piece.signal s is)
        (Contains-head piece.signal signals)
    by_test rest false is = Contains-later piece.signal signals s
        (rest (subst (λ b. IsTrue (b || others)) is h))

-- a statement in indexed tells all that it assigns
tells_all : (x : Indexed) → IsMarked x → (s : ℕ) → IsTrue (assigns (statement_of x) s)
    → Contains (targets_in x) s
tells_all (indexed.Assign pieces place blocking value) marks s h = among_pieces (piece_forms pieces.now) s h
tells_all (indexed.Block' shape row numbers) marks s h =
    by_found (get nat_cmp numbers s) refl
  where
    by_found : (o : Option (Vec ℕ)) → get nat_cmp numbers s ≡ o → Contains (keys numbers) s
    by_found (Some those) is =
        (btree_map_contains_key_iff nat_cmp_total exact_unsigned numbers s).0
        (subst IsSome (sym is) refl)
    by_found None is = absurd (false≢true
        (ap (λ o. assigns (chosen (row_statements row) (numbers_found o)) s) (sym is)
        ∙ sym (marks.0 s).assigned ∙ h))
tells_all (indexed.Branch' targets place c p first q second) marks s h = marks.0 s h

pub covered : (first second : Indexed) (keys : List ℕ)
    → keys ≡ fold (insert_key nat_cmp) [] (targets_in first ++ targets_in second)
    → IsMarked first → IsMarked second
    → Covers keys (statement_of first) (statement_of second)
covered first second keys is one two = λ s h. subst (λ ks. Contains ks s) (sym is)
    (all_put (targets_in first ++ targets_in second) [] s
    (by_test s (assigns (statement_of first) s) refl h))
  where
    by_test : (s : ℕ) (b : Bool) → assigns (statement_of first) s ≡ b
        → IsTrue (assigns (statement_of first) s || assigns (statement_of second) s)
        → Contains (targets_in first ++ targets_in second) s
    by_test s true is h = Contains-left (targets_in first) (targets_in second) s
        (tells_all first one s is)
    by_test s false is h = Contains-right (targets_in first) (targets_in second) s
        (tells_all second two s
        (subst (λ b. IsTrue (b || assigns (statement_of second) s)) is h))

-- what was put into boxes, as it was before
module _ (first second a b : Indexed) (keys : List ℕ)
    (is : keys ≡ fold (insert_key nat_cmp) [] (targets_in first ++ targets_in second))
    (one : a ≡ first) (two : b ≡ second) (x : Indexed)
    (marks : Covers keys (statement_of a) (statement_of b) → IsMarked a → IsMarked b → IsMarked x)
  where
    boxed_marks : IsMarked first → IsMarked second → IsMarked x
    boxed_marks m n =
        let p = subst IsMarked (sym one) m in
        let q = subst IsMarked (sym two) n in
        marks (covered a b keys
        (is ∙ ap₂ (λ y z. fold (insert_key nat_cmp) [] (targets_in y ++ targets_in z))
        (sym one) (sym two)) p q) p q

    pub branch_indexed : (place : Place) (condition : TypedTree) (met unmet : FlatStatement)
        → statement_of x ≡ branch place condition (statement_of a) (statement_of b)
        → IsMadeOf met first → IsMadeOf unmet second → IsMadeOf (branch place condition met unmet) x
    branch_indexed place condition met unmet goes m n = record {
      same = subst (Same (branch place condition met unmet))
          (sym (goes
          ∙ ap₂ (λ y z. branch place condition (statement_of y) (statement_of z)) one two))
          (same_branch place condition met unmet (statement_of first) (statement_of second)
          m.same n.same);
      marked = boxed_marks m.marked n.marked;
    }

-- ---- blocks

pub none_so_far : (whole : FlatStatement) → SoFar whole whole []
none_so_far whole = record {
  same = same_back (after nothing whole) whole (nothing_first whole);
  marked = All-nil IsMarked;
}

pub one_so_far : (whole first rest : FlatStatement) (old new : List Indexed) (x : Indexed)
    → SoFar whole (after first rest) old → IsMadeOf first x → new ≡ old ++ x ∷ []
    → SoFar whole rest new
one_so_far whole first rest old new x so is items = record {
  same =
      same_then whole (after (whole_of old) (after first rest)) (after (whole_of new) rest) so.same
      (same_then (after (whole_of old) (after first rest))
      (after (after (whole_of old) first) rest) (after (whole_of new) rest)
      (same_back (after (after (whole_of old) first) rest)
      (after (whole_of old) (after first rest)) (regrouped (whole_of old) first rest))
      (same_after (after (whole_of old) first) rest (whole_of new) rest
      (same_then (after (whole_of old) first) (after (whole_of old) (statement_of x))
      (whole_of new)
      (same_after (whole_of old) first (whole_of old) (statement_of x)
      (same_itself (whole_of old)) is.same)
      (same_back (whole_of new) (after (whole_of old) (statement_of x))
      (pushed old new x items)))
      (same_itself rest)));
  marked = subst (All IsMarked) (sym items)
      (All-push IsMarked old x so.marked is.marked);
}

-- the parts of a block stand in it as a row
row_is : (n : _) (row : Row_of-Indexed n)
    → row_statements row ≡ map statement_of (items-the_row-Indexed n row)
row_is _ end_of-Indexed = refl
row_is _ (more_of-Indexed x row) = ap (λ xs. statement_of x ∷ xs) (row_is _ row)

row_parts : (v : Vec Indexed) → row_statements (hidden-the_row-Indexed-0 v) ≡ map statement_of v.items
row_parts v =
    row_is _ (hidden-the_row-Indexed-0 v) ∙ ap (map statement_of) (items_hidden-the_row-Indexed-0 v)

marked_row : (n : _) (row : Row_of-Indexed n) → All IsMarked (items-the_row-Indexed n row)
    → AreMarked row
marked_row _ end_of-Indexed marks = tt
marked_row _ (more_of-Indexed x row) marks =
    (marks 0 x (omega arith), marked_row _ row (λ k d inside. marks (suc k) d (omega arith)))

pub block_indexed : (whole : FlatStatement) (parts : Vec Indexed) (numbers : BTreeMap ℕ (Vec ℕ))
    → SoFar whole nothing parts.items → Tells (map statement_of parts.items) numbers
    → IsMadeOf whole (indexed.Block parts numbers)
block_indexed whole parts numbers so tells = record {
  same = subst (λ (xs : List FlatStatement). Same whole (chain_of xs)) (sym (row_parts parts))
      (same_then whole (after (whole_of parts.items) nothing) (whole_of parts.items) so.same
      (nothing_last (whole_of parts.items)));
  marked = (
    subst (λ (xs : List FlatStatement). Tells xs numbers) (sym (row_parts parts)) tells,
    marked_row _ (hidden-the_row-Indexed-0 parts)
        (subst (All IsMarked) (sym (items_hidden-the_row-Indexed-0 parts)) so.marked),
  );
}

-- ---- what is looked up

-- what is not among the targets is not assigned
passed_over : (first second : FlatStatement) (targets : BTreeSet ℕ) (s : ℕ)
    → Covers targets.keys first second → IsFalse (contains nat_cmp targets s)
    → IsFalse (assigns first s || assigns second s)
passed_over first second targets s covers none =
    by_test (assigns first s || assigns second s) refl
  where
    by_test : (b : Bool) → (assigns first s || assigns second s) ≡ b → IsFalse b
    by_test false is = refl
    by_test true is = absurd (false≢true (sym none
        ∙ (btree_set_contains_iff nat_cmp_total exact_unsigned targets s).1 (covers s is)))

-- what does not assign the target goes as nothing
goes_nothing : (s : ℕ) (a : FlatStatement) → IsFalse (assigns a s) → GoesFor s a nothing
goes_nothing s a none = record { assigned = none; parts = slice_is_empty s a none }

-- parts that go alike, chosen by the same numbers
chosen_alike : (s : ℕ) (parts others : List FlatStatement)
    → ((k : ℕ) → GoesFor s (get_or parts k nothing) (get_or others k nothing))
    → (numbers : List ℕ) → GoesFor s (chosen parts numbers) (chosen others numbers)
chosen_alike s parts others alike [] = goes_itself s nothing
chosen_alike s parts others alike (k ∷ numbers) =
    goes_after s (get_or parts k nothing) (chosen parts numbers) (get_or others k nothing)
    (chosen others numbers) (alike k) (chosen_alike s parts others alike numbers)

-- a branch, or nothing where it is passed over
arms_looked_up : (s : ℕ) (place : Place) (condition : TypedTree) (a b x y : FlatStatement)
    (c : Bool) → GoesFor s a x → GoesFor s b y
    → (IsFalse c → IsFalse (assigns a s || assigns b s))
    → GoesFor s (branch place condition a b) (cond c (branch place condition x y) nothing)
arms_looked_up s place condition a b x y true one two none =
    goes_branch s place condition a b x y one two
arms_looked_up s place condition a b x y false one two none =
    goes_nothing s (branch place condition a b) (none refl)

mutual
  -- what is looked up for a target goes as the statement
  goes_looked_up : (s : ℕ) (x : Indexed) → IsMarked x → GoesFor s (statement_of x) (looked_up s x)
  goes_looked_up s (indexed.Assign pieces place blocking value) marks =
      goes_itself s (statement_of (indexed.Assign pieces place blocking value))
  goes_looked_up s (indexed.Block' shape row numbers) marks =
      goes_then s (chain_of (row_statements row))
      (chosen (row_statements row) (numbers_at numbers s))
      (chosen (parts_looked_up s row) (numbers_at numbers s)) (marks.0 s)
      (chosen_alike s (row_statements row) (parts_looked_up s row) (parts_go s row marks.1)
      (numbers_at numbers s))
  goes_looked_up s (indexed.Branch' targets place value p first q second) marks =
      arms_looked_up s place (typed_tree value.now) (statement_of first) (statement_of second)
      (looked_up s first) (looked_up s second) (contains nat_cmp targets s)
      (goes_looked_up s first marks.1) (goes_looked_up s second marks.2)
      (passed_over (statement_of first) (statement_of second) targets s marks.0)

  parts_go : {n : _} → (s : ℕ) (row : Row_of-Indexed n) → AreMarked row → (k : ℕ)
      → GoesFor s (get_or (row_statements row) k nothing) (get_or (parts_looked_up s row) k nothing)
  parts_go s end_of-Indexed marks k = goes_itself s nothing
  parts_go s (more_of-Indexed x row) marks zero = goes_looked_up s x marks.0
  parts_go s (more_of-Indexed x row) marks (suc k) = parts_go s row marks.1 k

made_indexed : (statement : FlatStatement) (x : Indexed) → IsMadeOf statement x
    → IsIndexed statement x
made_indexed statement x made s =
    sym (made.same.parts s nothing ∙ (goes_looked_up s x made.marked).parts nothing)

-- the parts of a block as they are looked up
row_looked_up : (s : ℕ) (n : _) (row : Row_of-Indexed n)
    → parts_looked_up s row ≡ map (looked_up s) (items-the_row-Indexed n row)
row_looked_up s _ end_of-Indexed = refl
row_looked_up s _ (more_of-Indexed x row) =
    ap (λ xs. looked_up s x ∷ xs) (row_looked_up s _ row)

block_parts : (s : ℕ) (v : Vec Indexed)
    → parts_looked_up s (hidden-the_row-Indexed-0 v) ≡ map (looked_up s) v.items
block_parts s v =
    row_looked_up s _ (hidden-the_row-Indexed-0 v)
    ∙ ap (map (looked_up s)) (items_hidden-the_row-Indexed-0 v)

-- ---- processes

pub one_more_indexed : (ps : List ProcessForm) (xs : List Indexed) (p : ProcessForm) (x : Indexed)
    → AreIndexed ps xs → IsIndexed p.body x → AreIndexed (ps ++ p ∷ []) (xs ++ x ∷ [])
one_more_indexed [] [] p x all is = (is, tt)
one_more_indexed [] (y ∷ xs) p x all is = absurd all
one_more_indexed (q ∷ ps) [] p x all is = absurd all
one_more_indexed (q ∷ ps) (y ∷ xs) p x all is =
    (all.0, one_more_indexed ps xs p x all.1 is)

pub as_many : (ps : List ProcessForm) (xs : List Indexed) → AreIndexed ps xs → length xs ≡ length ps
as_many [] [] all = refl
as_many [] (y ∷ xs) all = absurd all
as_many (q ∷ ps) [] all = absurd all
as_many (q ∷ ps) (y ∷ xs) all = ap suc (as_many ps xs all.1)

pub indexed_at : (ps : List ProcessForm) (xs : List Indexed) (k : ℕ) (p : ProcessForm) (x : Indexed)
    → AreIndexed ps xs → k < length xs → get_or ps k p ≡ p → x ≡ get_or xs k x
    → IsIndexed p.body x
indexed_at [] [] k p x all inside there is = absurd (omega arith)
indexed_at [] (y ∷ xs) k p x all inside there is = absurd all
indexed_at (q ∷ ps) [] k p x all inside there is = absurd all
indexed_at (q ∷ ps) (y ∷ xs) zero p x all inside there is =
    subst (λ z. IsIndexed p.body z) (sym is) (subst (λ z. IsIndexed z.body y) there all.0)
indexed_at (q ∷ ps) (y ∷ xs) (suc k) p x all inside there is =
    indexed_at ps xs k p x all.1 (omega arith) there is

-- ---- slices

pub slice_nothing : (s : ℕ) (a : FlatStatement) → IsFalse (assigns a s) → IsSliceOf s a slice.Nothing
slice_nothing s a none = record {
  nothing = ap not (sym none);
  parts = λ rest. sym (slice_is_empty s a none rest);
  routes = λ signals route. sym (stays signals s a none route);
}

-- ---- slices of what goes alike

slices_for : (s : ℕ) (a b : FlatStatement) (cs : List BodySlice) → GoesFor s a b → AreSlicesOf s a cs
    → AreSlicesOf s b cs
slices_for s a b cs goes are = record {
  nothing = are.nothing ∙ ap not goes.assigned;
  parts = λ rest. are.parts rest ∙ goes.parts rest;
  routes = λ signals route.
      are.routes signals route
      ∙ same_slice_routes signals s a b (goes.parts nothing) route;
}

slice_for : (s : ℕ) (a b : FlatStatement) (c : BodySlice) → GoesFor s a b → IsSliceOf s b c → IsSliceOf s a c
slice_for s a b c goes is = record {
  nothing = is.nothing ∙ ap not (sym goes.assigned);
  parts = λ rest. is.parts rest ∙ sym (goes.parts rest);
  routes = λ signals route.
      is.routes signals route
      ∙ sym (same_slice_routes signals s a b (goes.parts nothing) route);
}

-- ---- chosen parts

chosen_more : (parts : List FlatStatement) (ns : List ℕ) (k : ℕ)
    → Same (chosen parts (ns ++ k ∷ [])) (after (chosen parts ns) (get_or parts k nothing))
chosen_more parts ns k =
    let part = λ (n : ℕ). get_or parts n nothing in
    subst (λ (xs : List FlatStatement). Same (chain_of xs) (after (chosen parts ns) (part k)))
    (sym (map-append part ns (k ∷ []))) (one_after (map part ns) (part k))

pub part_at : (f : Indexed → FlatStatement) (parts : List Indexed) (k : ℕ) (part : Indexed)
    (d : FlatStatement) → k < length parts → part ≡ get_or parts k part
    → get_or (map f parts) k d ≡ f part
part_at f [] k part d inside is = absurd (omega arith)
part_at f (x ∷ xs) zero part d inside is = ap f (sym is)
part_at f (x ∷ xs) (suc k) part d inside is = part_at f xs k part d (omega arith) is

beyond : (f : Indexed → FlatStatement) (parts : List Indexed) (k : ℕ) → length parts ≤ k
    → get_or (map f parts) k nothing ≡ nothing
beyond f [] k out = refl
beyond f (x ∷ xs) zero out = absurd (omega arith)
beyond f (x ∷ xs) (suc k) out = beyond f xs k (omega arith)

-- the slice of the part with the next number
pub next_slice : (s : ℕ) (parts : List Indexed) (ns : List ℕ) (i k : ℕ) (part : Indexed)
    (old new : List BodySlice) (c : BodySlice) → i < length ns → get_or ns i 0 ≡ k
    → k < length parts → part ≡ get_or parts k part
    → AreSlicesOf s (chosen (map (looked_up s) parts) (take i ns)) old
    → IsSliceOf s (looked_up s part) c → new ≡ old ++ c ∷ []
    → AreSlicesOf s (chosen (map (looked_up s) parts) (take (i + 1) ns)) new
next_slice s parts ns i k part old new c inside is within at are slice items =
    let all = map (looked_up s) parts in
    let before = chosen all (take i ns) in
    let here = get_or all k nothing in
    subst (λ (ms : List ℕ). AreSlicesOf s (chosen all ms) new) (sym (one_taken ns i 0 k inside is))
    (slices_for s (after before here) (chosen all (take i ns ++ k ∷ [])) new
    (for_target (after before here) (chosen all (take i ns ++ k ∷ []))
    (same_back (chosen all (take i ns ++ k ∷ [])) (after before here)
    (chosen_more all (take i ns) k)) s)
    (more_slices s before here old new c are
    (subst (λ (x : FlatStatement). IsSliceOf s x c)
    (sym (part_at (looked_up s) parts k part nothing within at)) slice) items))

-- a number beyond all parts names none
pub no_next_slice : (s : ℕ) (parts : List Indexed) (ns : List ℕ) (i k : ℕ) (cs : List BodySlice)
    → i < length ns → get_or ns i 0 ≡ k → length parts ≤ k
    → AreSlicesOf s (chosen (map (looked_up s) parts) (take i ns)) cs
    → AreSlicesOf s (chosen (map (looked_up s) parts) (take (i + 1) ns)) cs
no_next_slice s parts ns i k cs inside is out are =
    let all = map (looked_up s) parts in
    let before = chosen all (take i ns) in
    subst (λ (ms : List ℕ). AreSlicesOf s (chosen all ms) cs) (sym (one_taken ns i 0 k inside is))
    (slices_for s before (chosen all (take i ns ++ k ∷ [])) cs
    (for_target before (chosen all (take i ns ++ k ∷ []))
    (same_back (chosen all (take i ns ++ k ∷ [])) before
    (same_then (chosen all (take i ns ++ k ∷ [])) (after before nothing) before
    (subst (λ (x : FlatStatement). Same (chosen all (take i ns ++ k ∷ [])) (after before x))
    (beyond (looked_up s) parts k out) (chosen_more all (take i ns) k))
    (nothing_last before))) s) are)

-- the slice of a block
pub block_slice : (s : ℕ) (parts : List Indexed) (numbers : BTreeMap ℕ (Vec ℕ)) (those : List ℕ)
    (cs : List BodySlice) (whole : BodySlice) → numbers_at numbers s ≡ those
    → AreSlicesOf s (chosen (map (looked_up s) parts) those) cs → EndsIn cs [] whole
    → IsSliceOf s (chosen (map (looked_up s) parts) (numbers_at numbers s)) whole
block_slice s parts numbers those cs whole found are ends =
    let all = map (looked_up s) parts in
    subst (λ (ns : List ℕ). IsSliceOf s (chosen all ns) whole) (sym found)
    (taken_as_one s (chosen all those) cs whole are ends)

pub block_passed : (s : ℕ) (parts : List Indexed) (numbers : BTreeMap ℕ (Vec ℕ))
    → get nat_cmp numbers s ≡ None
    → IsSliceOf s (chosen (map (looked_up s) parts) (numbers_at numbers s)) slice.Nothing
block_passed s parts numbers none =
    block_slice s parts numbers [] [] slice.Nothing (ap numbers_found none) (no_slices s)
    (none_ends [])

pub block_looked_up : (s : ℕ) (parts : Vec Indexed) (numbers : BTreeMap ℕ (Vec ℕ))
    → looked_up s (indexed.Block parts numbers)
    ≡ chosen (map (looked_up s) parts.items) (numbers_at numbers s)
block_looked_up s parts numbers =
    ap (λ (xs : List FlatStatement). chosen xs (numbers_at numbers s)) (block_parts s parts)

-- ---- the numbers of parts

last_is : (ns : List ℕ) (k : ℕ) → get_or (ns ++ k ∷ []) (length ns) 0 ≡ k
last_is [] k = refl
last_is (n ∷ ns) k = last_is ns k

-- the last of some, by how many come before it
some_end : (ns : List ℕ) (m k : ℕ)
    → (not (suc m == 0) && (get_or ns (suc m - 1) 0 == k)) ≡ (get_or ns m 0 == k)
some_end ns m k =
    let before : suc m - 1 ≡ m = omega arith in
    ap₂ (λ b i. not b && (get_or ns i 0 == k)) (not_zero (suc m == 0) refl) before
  where
    not_zero : (b : Bool) → (suc m == 0) ≡ b → b ≡ false
    not_zero true is = let same = eqb-true (suc m) 0 is in absurd (omega arith)
    not_zero false is = refl

ends_pushed : (ns : List ℕ) (k : ℕ) → IsTrue (ends_in (ns ++ k ∷ []) k)
ends_pushed ns k =
    let long : length (ns ++ k ∷ []) ≡ suc (length ns) =
    length-append ns (k ∷ []) ∙ add-one (length ns) in
    ap (λ n. not (n == 0) && (get_or (ns ++ k ∷ []) (n - 1) 0 == k)) long
    ∙ some_end (ns ++ k ∷ []) (length ns) k
    ∙ ap (λ n. n == k) (last_is ns k) ∙ eq-eqb k k refl

-- a number that is put twice
twice : (k : ℕ) (ns : List ℕ) → with_number k (with_number k ns) ≡ with_number k ns
twice k ns = by_test (ends_in ns k) refl
  where
    by_test : (b : Bool) → ends_in ns k ≡ b → with_number k (with_number k ns) ≡ with_number k ns
    by_test true is = ap (with_number k) (ap (λ b. cond b ns (ns ++ k ∷ [])) is)
    by_test false is =
        let more : with_number k ns ≡ ns ++ k ∷ [] = ap (λ b. cond b ns (ns ++ k ∷ [])) is in
        ap (with_number k) more
        ∙ ap (λ b. cond b (ns ++ k ∷ []) ((ns ++ k ∷ []) ++ k ∷ [])) (ends_pushed ns k)
        ∙ sym more

-- a number above all is put at the end
put_last : (k : ℕ) (ns : List ℕ) → All (λ n. n < k) ns → with_number k ns ≡ ns ++ k ∷ []
put_last k [] below = refl
put_last k (n ∷ ns) below =
    ap (λ b. cond b (n ∷ ns) (n ∷ ns ++ k ∷ []))
    (some_end (n ∷ ns) (length ns) k
    ∙ apart (get_or (n ∷ ns) (length ns) 0) (below (length ns) 0 (omega arith)))
  where
    apart : (m : ℕ) → m < k → (m == k) ≡ false
    apart m less = by_test (m == k) refl
      where
        by_test : (b : Bool) → (m == k) ≡ b → b ≡ false
        by_test true is = let same = eqb-true m k is in absurd (omega arith)
        by_test false is = refl

differ : (t s : ℕ) → (t == s) ≡ false → is_at (nat_cmp t) s ≡ false
differ t s h =
    elim (nat_lt t s) as (λ l. is_eq (cond l Less (cond (t == s) Equal Greater)) ≡ false) [
      | true ↦ refl
      | false ↦ ap (λ b. is_eq (cond b Equal Greater)) h
    ]

-- the numbers of one target were taken out and put back with one more
pub number_put : (old mid new : BTreeMap ℕ (Vec ℕ)) (t k : ℕ) (those : List ℕ) (more : Vec ℕ)
    → Updates nat_cmp old mid t None → Updates nat_cmp mid new t (Some more)
    → numbers_at old t ≡ those → more.items ≡ with_number k those
    → (s : ℕ) → numbers_at new s ≡ numbered (t ∷ []) k (numbers_at old) s
number_put old mid new t k those more out back was put s = by_test (t == s) refl
  where
    as_tested : (b : Bool) → (t == s) ≡ b
        → cond (b || false) (with_number k (numbers_at old s)) (numbers_at old s)
        ≡ numbered (t ∷ []) k (numbers_at old) s
    as_tested b is = ap (λ (x : Bool).
        cond (x || false) (with_number k (numbers_at old s)) (numbers_at old s)) (sym is)

    by_test : (b : Bool) → (t == s) ≡ b
        → numbers_at new s ≡ numbered (t ∷ []) k (numbers_at old) s
    by_test true is =
        subst (λ (z : ℕ). numbers_at new z ≡ with_number k (numbers_at old z))
        (eqb-true t s is)
        (ap numbers_found back.1 ∙ put ∙ ap (with_number k) (sym was))
        ∙ as_tested true is
    by_test false is =
        ap numbers_found (back.2 s (differ t s is) ∙ out.2 s (differ t s is))
        ∙ as_tested false is

-- the number was added for one target more
pub numbered_more : (ts : List ℕ) (i t k : ℕ) (old mid new : ℕ → List ℕ) (s : ℕ)
    → i < length ts → get_or ts i 0 ≡ t → mid s ≡ numbered (take i ts) k old s
    → new s ≡ numbered (t ∷ []) k mid s → new s ≡ numbered (take (i + 1) ts) k old s
numbered_more ts i t k old mid new s inside is one two =
    two ∙ ap (λ (ns : List ℕ). cond ((t == s) || false) (with_number k ns) ns) one
    ∙ by_tests (list_any (λ x. x == s) (take i ts)) (t == s)
    ∙ sym (ap (λ (b : Bool). cond b (with_number k (old s)) (old s))
    (ap (list_any (λ x. x == s)) (one_taken ts i 0 t inside is)
    ∙ list_any-append (λ x. x == s) (take i ts) (t ∷ [])))
  where
    by_tests : (b c : Bool)
        → cond (c || false) (with_number k (cond b (with_number k (old s)) (old s)))
        (cond b (with_number k (old s)) (old s))
        ≡ cond (b || (c || false)) (with_number k (old s)) (old s)
    by_tests true true = twice k (old s)
    by_tests true false = refl
    by_tests false true = refl
    by_tests false false = refl

-- ---- what the numbers of the first parts tell

abbrev pub TellsFirst : List FlatStatement → ℕ → BTreeMap ℕ (Vec ℕ) → Type 0
TellsFirst parts i numbers =
    (s : ℕ) → All (λ k. k < i) (numbers_at numbers s)
    × GoesFor s (chain_of (take i parts)) (chosen parts (numbers_at numbers s))

pub none_told : (parts : List FlatStatement) (numbers : BTreeMap ℕ (Vec ℕ))
    → numbers.entries ≡ [] → TellsFirst parts 0 numbers
none_told parts numbers empty = λ s.
    subst (λ (ns : List ℕ). All (λ k. k < 0) ns
    × GoesFor s (chain_of (take 0 parts)) (chosen parts ns))
    (sym (ap (λ es. numbers_found (lookup (is_at (nat_cmp s)) es)) empty))
    (All-nil (λ k. k < 0), for_target nothing nothing (same_itself nothing) s)

-- what is told of a target by its numbers
abbrev told_by : List FlatStatement → ℕ → ℕ → List ℕ → Type 0
told_by parts i s ns =
    All (λ k. k < i) ns × GoesFor s (chain_of (take i parts)) (chosen parts ns)

any_of : (xs : List ℕ) (s : ℕ) → Contains xs s → IsTrue (list_any (λ t. t == s) xs)
any_of [] s at = absurd (Contains-nil s at)
any_of (x ∷ xs) s at = ⊎_elim
    (λ e. ap (λ b. b || list_any (λ t. t == s) xs) (eq-eqb x s e))
    (λ inside. or_later (x == s) (list_any (λ t. t == s) xs) (any_of xs s inside))
    (Contains-cases x xs s at)
  where
    or_later : (a b : Bool) → IsTrue b → IsTrue (a || b)
    or_later true b h = refl
    or_later false b h = h

-- what is not among the targets of a statement in indexed is not assigned
untold : (x : Indexed) → IsMarked x → (s : ℕ) → IsFalse (list_any (λ t. t == s) (targets_in x))
    → IsFalse (assigns (statement_of x) s)
untold x marks s none = by_test (assigns (statement_of x) s) refl
  where
    by_test : (b : Bool) → assigns (statement_of x) s ≡ b → IsFalse b
    by_test false is = refl
    by_test true is =
        absurd (false≢true (sym none ∙ any_of (targets_in x) s (tells_all x marks s is)))

as_long : (xs : List Indexed) → length (map statement_of xs) ≡ length xs
as_long [] = refl
as_long (x ∷ xs) = ap suc (as_long xs)

pub more_told : (parts : List Indexed) (i : ℕ) (part : Indexed) (old new : BTreeMap ℕ (Vec ℕ))
    → i < length parts → part ≡ get_or parts i part → All IsMarked parts
    → ((s : ℕ) → numbers_at new s ≡ numbered (targets_in part) i (numbers_at old) s)
    → TellsFirst (map statement_of parts) i old → TellsFirst (map statement_of parts) (i + 1) new
more_told parts i part old new inside at marks gains so = λ s.
    by_test s (list_any (λ t. t == s) (targets_in part)) refl
  where
    all : List FlatStatement
    all = map statement_of parts

    x : FlatStatement
    x = statement_of part

    start : FlatStatement
    start = chain_of (take i all)

    longer : Same (chain_of (take (i + 1) all)) (after start x)
    longer = subst (λ (xs : List FlatStatement). Same (chain_of xs) (after start x))
        (sym (one_taken all i x x (subst (λ n. i < n) (sym (as_long parts)) inside)
        (part_at statement_of parts i part x inside at))) (one_after (take i all) x)

    changed : (s : ℕ) (b : Bool) → list_any (λ t. t == s) (targets_in part) ≡ b
        → numbers_at new s ≡ cond b (with_number i (numbers_at old s)) (numbers_at old s)
    changed s b is = gains s
        ∙ ap (λ (c : Bool). cond c (with_number i (numbers_at old s)) (numbers_at old s)) is

    by_test : (s : ℕ) (b : Bool) → list_any (λ t. t == s) (targets_in part) ≡ b
        → told_by all (i + 1) s (numbers_at new s)
    by_test s true is =
        let ns = numbers_at old s in
        let told = so s in
        let more = chosen all (ns ++ i ∷ []) in
        subst (told_by all (i + 1) s)
        (sym (changed s true is ∙ put_last i ns told.0)) (
          All-push (λ k. k < i + 1) ns i (λ k d within. below (told.0 k d within)) (omega arith),
          goes_then s (chain_of (take (i + 1) all)) (after start x) more
              (for_target (chain_of (take (i + 1) all)) (after start x) longer s)
              (goes_then s (after start x) (after (chosen all ns) x) more
              (goes_after s start x (chosen all ns) x told.1 (goes_itself s x))
              (for_target (after (chosen all ns) x) more
              (same_back more (after (chosen all ns) x)
              (subst (λ (y : FlatStatement). Same more (after (chosen all ns) y))
              (part_at statement_of parts i part nothing inside at) (chosen_more all ns i))) s)),
        )
      where
        below : {k : ℕ} → k < i → k < i + 1
        below less = omega arith
    by_test s false is =
        let ns = numbers_at old s in
        let told = so s in
        subst (told_by all (i + 1) s) (sym (changed s false is)) (
          (λ k d within. below (told.0 k d within)),
          goes_then s (chain_of (take (i + 1) all)) (after start x) (chosen all ns)
              (for_target (chain_of (take (i + 1) all)) (after start x) longer s)
              (goes_then s (after start x) start (chosen all ns)
              (passes s start x
              (untold part (subst IsMarked (sym at) (marks i part inside)) s is)) told.1),
        )
      where
        below : {k : ℕ} → k < i → k < i + 1
        below less = omega arith

pub all_told : (parts : List Indexed) (i : ℕ) (numbers : BTreeMap ℕ (Vec ℕ)) → length parts ≤ i
    → TellsFirst (map statement_of parts) i numbers → Tells (map statement_of parts) numbers
all_told parts i numbers all so = λ s.
    subst (λ (xs : List FlatStatement).
    GoesFor s (chain_of xs) (chosen (map statement_of parts) (numbers_at numbers s)))
    (all_taken parts i all) (so s).1
  where
    all_taken : (xs : List Indexed) (n : ℕ) → length xs ≤ n
        → take n (map statement_of xs) ≡ map statement_of xs
    all_taken [] zero enough = refl
    all_taken [] (suc n) enough = refl
    all_taken (x ∷ xs) zero enough = absurd (omega arith)
    all_taken (x ∷ xs) (suc n) enough =
        ap (λ ys. statement_of x ∷ ys) (all_taken xs n (omega arith))

pub assign_indexed : (pieces : List PieceForm) (place : Place) (blocking : Bool) (right : TypedTree)
    (x : Indexed) → statement_of x ≡ assign pieces place blocking right → IsMarked x
    → IsMadeOf (assign pieces place blocking right) x
assign_indexed pieces place blocking right x is marks = record {
  same = subst (Same (assign pieces place blocking right)) (sym is)
      (same_itself (assign pieces place blocking right));
  marked = marks;
}

pub next_indexed : (ps : List Process) (i : ℕ) (p : Process) (old new : List Indexed) (x : Indexed)
    → i < length ps → p ≡ get_or ps i p → AreIndexed (map process_form (take i ps)) old
    → IsMadeOf (flat_statement p.body) x → new ≡ old ++ x ∷ []
    → AreIndexed (map process_form (take (i + 1) ps)) new
next_indexed ps i p old new x inside is so made items =
    subst (AreIndexed (map process_form (take (i + 1) ps))) (sym items)
    (subst (λ fs. AreIndexed fs (old ++ x ∷ [])) (sym (forms_more process_form ps i p inside is))
    (one_more_indexed (map process_form (take i ps)) old (process_form p) x so
    (made_indexed (flat_statement p.body) x made)))

-- ---- targets

module _ (design : FlatDesign) (s k : ℕ) (p : ProcessForm) (xs : List Indexed)
    (all : AreIndexed (processes_of design) xs) (driven : driver_of design s ≡ Some k) where
  pub inside_bodies : k < length xs
  inside_bodies =
      subst (λ n. k < n) (sym (as_many (processes_of design) xs all))
      (position-Some (λ (q : ProcessForm). assigns q.body s) (processes_of design) k p driven).0

  pub indexed_of_driver : (x : Indexed) → get_or (processes_of design) k p ≡ p → x ≡ get_or xs k x
      → IsIndexed p.body x
  indexed_of_driver x there is =
      indexed_at (processes_of design) xs k p x all inside_bodies there is

pub same_routes : (statement : FlatStatement) (x : Indexed) → IsIndexed statement x
    → (signals : List SignalForm) (s : ℕ) (route : RouteForm)
    → routes_before signals s (looked_up s x) route ≡ routes_before signals s statement route
same_routes statement x is signals s route =
    same_slice_routes signals s (looked_up s x) statement (is s) route
