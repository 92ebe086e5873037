-- Words (IEEE 1364-2005, clause 3 and annex B): those of the grammar, and those whose forms are
-- left out. None of them is a name.
use Rattle.std.specs.Prelude.{ℕ, Bool, ◌||◌, if◌then◌else◌, List, [], ◌∷◌, ◌++◌, length, take_while}
use Rattle.std.specs.Prelude.{map, Option, is_some, codes}
use Rattle.std.specs.List.{list_any}
use Rattle.std.specs.Option.{option_map_or}
use Rattle.std.specs.Str.{bytes_eq}
use Rattle.sv_token.specs.Bytes.{begins_name, continues_name, next_is, entry}
use Rattle.sv_token.specs.Fronts.{Front, token, bad_byte, unsupported}
use Rattle.sv_token.specs.Lexemes.{word, identifier}
use Rattle.sv_token.specs.declared.keywords.WordKind.{WordKind}
use Rattle.sv_token.specs.declared.keywords.WordKind.TheVariants.{Always, Assign, Begin, Case}
use Rattle.sv_token.specs.declared.keywords.WordKind.TheVariants.{Default, Else, End, Endcase}
use Rattle.sv_token.specs.declared.keywords.WordKind.TheVariants.{Endmodule, If, Input, Localparam}
use Rattle.sv_token.specs.declared.keywords.WordKind.TheVariants.{Module, Output, Parameter}
use Rattle.sv_token.specs.declared.keywords.WordKind.TheVariants.{Posedge, Reg, Signed, Wire}
use Rattle.sv_token.specs.declared.keywords.WordKind.TheVariants.{Lattice, Endlattice, Labelmap}
use Rattle.sv_token.specs.declared.keywords.WordKind.TheVariants.{Endlabelmap, Point, Invariant}
use Rattle.sv_token.specs.declared.keywords.WordKind.TheVariants.{Release}

-- the words of the grammar; those from `lattice` on are SecVerilog's and this project's
abbrev pub word_table : List (List ℕ × WordKind)
word_table =
    (codes "always", Always)
    ∷ (codes "assign", Assign)
    ∷ (codes "begin", Begin)
    ∷ (codes "case", Case)
    ∷ (codes "default", Default)
    ∷ (codes "else", Else)
    ∷ (codes "end", End)
    ∷ (codes "endcase", Endcase)
    ∷ (codes "endmodule", Endmodule)
    ∷ (codes "if", If)
    ∷ (codes "input", Input)
    ∷ (codes "localparam", Localparam)
    ∷ (codes "module", Module)
    ∷ (codes "output", Output)
    ∷ (codes "parameter", Parameter)
    ∷ (codes "posedge", Posedge)
    ∷ (codes "reg", Reg)
    ∷ (codes "signed", Signed)
    ∷ (codes "wire", Wire)
    ∷ (codes "lattice", Lattice)
    ∷ (codes "endlattice", Endlattice)
    ∷ (codes "labelmap", Labelmap)
    ∷ (codes "endlabelmap", Endlabelmap)
    ∷ (codes "point", Point)
    ∷ (codes "invariant", Invariant)
    ∷ (codes "$release", Release)
    ∷ []

-- the other keywords of the standard
abbrev pub refused_words : List (List ℕ)
refused_words =
    map codes
    ("and" ∷ "automatic" ∷ "buf" ∷ "bufif0" ∷ "bufif1" ∷ "casex" ∷ "casez" ∷ "cell" ∷ "cmos" ∷
    "config" ∷ "deassign" ∷ "defparam" ∷ "design" ∷ "disable" ∷ "edge" ∷ "endconfig" ∷
    "endfunction" ∷ "endgenerate" ∷ "endprimitive" ∷ "endspecify" ∷ "endtable" ∷ "endtask" ∷
    "event" ∷ "for" ∷ "force" ∷ "forever" ∷ "fork" ∷ "function" ∷ "generate" ∷ "genvar" ∷ "highz0" ∷
    "highz1" ∷ "ifnone" ∷ "incdir" ∷ "include" ∷ "initial" ∷ "inout" ∷ "instance" ∷ "integer" ∷
    "join" ∷ "large" ∷ "liblist" ∷ "library" ∷ "macromodule" ∷ "medium" ∷ "nand" ∷ "negedge" ∷
    "nmos" ∷ "nor" ∷ "noshowcancelled" ∷ "not" ∷ "notif0" ∷ "notif1" ∷ "or" ∷ "pmos" ∷ "primitive" ∷
    "pull0" ∷ "pull1" ∷ "pulldown" ∷ "pullup" ∷ "pulsestyle_ondetect" ∷ "pulsestyle_onevent" ∷
    "rcmos" ∷ "real" ∷ "realtime" ∷ "release" ∷ "repeat" ∷ "rnmos" ∷ "rpmos" ∷ "rtran" ∷
    "rtranif0" ∷ "rtranif1" ∷ "scalared" ∷ "showcancelled" ∷ "small" ∷ "specify" ∷ "specparam" ∷
    "strong0" ∷ "strong1" ∷ "supply0" ∷ "supply1" ∷ "table" ∷ "task" ∷ "time" ∷ "tran" ∷ "tranif0" ∷
    "tranif1" ∷ "tri" ∷ "tri0" ∷ "tri1" ∷ "triand" ∷ "trior" ∷ "trireg" ∷ "unsigned" ∷ "use" ∷
    "uwire" ∷ "vectored" ∷ "wait" ∷ "wand" ∷ "weak0" ∷ "weak1" ∷ "while" ∷ "wor" ∷ "xnor" ∷
    "xor" ∷ [])

-- the word of the grammar that the text spells
unfoldable pub word_of : List ℕ → Option WordKind
word_of text = entry word_table text

-- whether the text is a word that is refused. Its token is an identifier, which the grammar takes
-- for no name
unfoldable pub is_refused_word : List ℕ → Bool
is_refused_word text = list_any (bytes_eq text) refused_words

-- whether the text is a word that names nothing
abbrev pub is_reserved : List ℕ → Bool
is_reserved text = is_some (word_of text) || is_refused_word text

-- from a letter or `_` on: a word of the grammar, or else an identifier
unfoldable pub name_at : ℕ → List ℕ → Front
name_at b bs =
    let more = take_while continues_name bs in
    token (option_map_or word (word_of (b ∷ more)) (identifier (b ∷ more))) (length more)

-- behind `$`: `$release` is a word, the other names of the system are left out
unfoldable pub system_name_at : List ℕ → Front
system_name_at bs =
    let name = take_while continues_name bs in
    let other = if next_is begins_name name then unsupported (codes "system-name") else bad_byte in
    option_map_or (λ w. token (word w) (length name)) (word_of (codes "$" ++ name)) other
