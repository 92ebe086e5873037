use Rattle.std.proofs.Common.{◌≡◌, ◌<◌, ℕ, List, ◌++◌, ◌∷◌, [], set, get_or, length, length-set}
use Rattle.std.proofs.Common.{Some, None, ap, ◌∙◌, subst, arith}
use Rattle.std.proofs.lemmas.List.{get_or_read}
use Rattle.sv_solve.specs.Codes.{code_of}
use Rattle.sv_solve.specs.Watching.{Watching, IsPairWithin}
use Rattle.sv_solve.proofs.Watched.{code_small, listed_more, listed_unwatched}
use Rattle.sv_solve.proofs.watches.Watches.attach.Goals as goal
use Rattle.sv_solve.proofs.watches.Watches.attach.Goals.{In-Some, In_ok-push-3}

pub returns-in_default-clause-listed : goal.returns-in_default-clause-listed
returns-in_default-clause-listed c =
    listed_unwatched c.args.self.now _ c.requires.listed (c.in_ok-push.ensures.items
    ∙ ap (λ z. z.pairs ++ None ∷ []) c.self.view_is) (ap (λ z. z.lists) c.self.view_is)
    (ap (λ z. z.variables) c.self.view_is)

-- the lists after the first push
middle_of : In_ok-push-3 → List (List ℕ)
middle_of c = set c.self.inside.lists.items c.index.result c.push-2.new.self

within_is : (c : In_ok-push-3) → IsPairWithin c.args.self.now.variables (Some c.in-Some.watched)
within_is c = subst (IsPairWithin c.args.self.now.variables) c.in-Some.is c.requires.of

place_is : (c : In_ok-push-3) → c.len-place.result ≡ length c.args.self.now.pairs
place_is c =
    omega (
      arith,
      c.len-place.ensures,
      c.self.inside.pairs.ok.0,
      ap (λ z.
          length z.pairs) c.self.view_is,
    )

middle_is : (c : In_ok-push-3) →
    middle_of c ≡ set c.args.self.now.lists (code_of c.in-Some.watched.one)
    (get_or c.args.self.now.lists (code_of c.in-Some.watched.one) []
    ++ length c.args.self.now.pairs ∷ [])
unfolding middle_of
middle_is c =
    let old = c.args.self.now in
    let within = within_is c in
    let lists : c.self.inside.lists.items ≡ old.lists = ap (λ z. z.lists) c.self.view_is in
    let below : c.index.result < length c.self.inside.lists.items =
    code_small c.self.inside.lists.items old c.in-Some.watched.one c.index.result lists
    c.requires.listed within.1 c.index.ensures in
    let read : c.index_mut.result.now ≡ get_or c.self.inside.lists.items c.index.result [] =
    get_or_read c.self.inside.lists.items c.index.result c.index_mut.result.now below
    c.index_mut.ensures.value [] in
    let place = place_is c in
    cc (lists, read, place, c.in_ok-push-2.ensures, c.index.ensures)

lists_are : (c : In_ok-push-3) →
    set (middle_of c) c.index-2.result c.push-3.new.self ≡
    set (middle_of c) (code_of c.in-Some.watched.other)
    (get_or (middle_of c) (code_of c.in-Some.watched.other) [] ++ length c.args.self.now.pairs ∷ [])
unfolding middle_of
lists_are c =
    let old = c.args.self.now in
    let within = within_is c in
    let size : length (middle_of c) ≡ length c.self.inside.lists.items =
    length-set c.self.inside.lists.items c.index.result c.push-2.new.self in
    let small = code_small c.self.inside.lists.items old c.in-Some.watched.other c.index-2.result
    (ap (λ z. z.lists) c.self.view_is) c.requires.listed within.2 c.index-2.ensures in
    let read : c.index_mut-2.result.now ≡ get_or (middle_of c) c.index-2.result [] =
    get_or_read (middle_of c) c.index-2.result c.index_mut-2.result.now
    (omega (arith, size, small)) c.index_mut-2.ensures.value [] in
    let place = place_is c in
    cc (read, place, c.in_ok-push-3.ensures, c.index-2.ensures)

pub returns-clause-listed : goal.returns-clause-listed
unfolding middle_of
returns-clause-listed c =
    let s = (goal.at.returns-clause-listed c).In_ok-push-3 in
    let old = c.args.self.now in
    let new : Watching =
    record {
      pairs = c.push-4.new.self.items;
      lists = set (middle_of s) c.index-2.result c.push-3.new.self;
      variables = c.self.inside.variables;
    } in
    listed_more old new c.in-Some.watched c.requires.listed (within_is s)
    (c.in_ok-push-4.ensures.items ∙ ap (λ z. z.pairs ++ c.args.pair ∷ []) c.self.view_is
    ∙ ap (λ z. old.pairs ++ z ∷ []) c.in-Some.is)
    (middle_of s) (middle_is s) (lists_are s) (ap (λ z. z.variables) c.self.view_is)
