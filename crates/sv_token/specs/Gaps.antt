-- What stands between tokens (IEEE 1364-2005, clause 3): beside blanks, comments, and the lines of
-- two directives (clause 19), which are passed over (this project's profile).
use Rattle.std.specs.Prelude.{ℕ, ◌+◌, if◌then◌else◌, List, [], ◌∷◌, drop, take_while, Option, Some}
use Rattle.std.specs.Prelude.{None, option_map, codes}
use Rattle.std.specs.List.{list_any, position_or_len}
use Rattle.std.specs.Option.{option_map_or}
use Rattle.std.specs.Str.{bytes_eq}
use Rattle.sv_token.specs.Bytes.{is_line_feed, begins_name, continues_name, next_is, begin_with}
use Rattle.sv_token.specs.Fronts.{Front, gap, bad_byte, open_comment, unsupported}

-- the number of bytes before the line feed, or of all where there is none
abbrev pub rest_of_line : List ℕ → ℕ
rest_of_line bytes = position_or_len is_line_feed bytes

-- the number of bytes up to the first `*/` and with it
abbrev pub close_length : List ℕ → Option ℕ
close_length [] = None
close_length (b ∷ bs) =
    if begin_with (codes "*/") (b ∷ bs) then Some 2
    else option_map (λ n. n + 1) (close_length bs)

-- behind the `/` of `/*`: the comment goes up to the first `*/` behind the `*`, any bytes stand in
-- it
unfoldable pub block_comment_at : List ℕ → Front
block_comment_at bs = option_map_or (λ n. gap (n + 1)) (close_length (drop 1 bs)) open_comment

-- the directives whose lines are skipped
abbrev pub skipped_directives : List (List ℕ)
skipped_directives = codes "timescale" ∷ codes "default_nettype" ∷ []

-- behind a backquote: a directive, with its name directly. Of a skipped line the rest may be
-- anything
unfoldable pub directive_at : List ℕ → Front
directive_at bs =
    if list_any (bytes_eq (take_while continues_name bs)) skipped_directives
    then gap (rest_of_line bs)
    else (if next_is begins_name bs then unsupported (codes "directive")
    else bad_byte)
