-- Words and names: what the plain program finds.
use Rattle.std.proofs.Common.{◌≡◌, ℕ, true, false, List, [], ◌∷◌, ◌++◌, map, replicate, refl}
use Rattle.std.specs.Prelude.{codes, flat_map}
use Rattle.sv_token.specs.declared.keywords.WordKind.TheVariants.{Always, Assign, Begin, Case}
use Rattle.sv_token.specs.declared.keywords.WordKind.TheVariants.{Default, Else, End, Endcase}
use Rattle.sv_token.specs.declared.keywords.WordKind.TheVariants.{Endmodule, If, Input, Localparam}
use Rattle.sv_token.specs.declared.keywords.WordKind.TheVariants.{Module, Output, Parameter}
use Rattle.sv_token.specs.declared.keywords.WordKind.TheVariants.{Posedge, Reg, Signed, Wire}
use Rattle.sv_token.specs.declared.keywords.WordKind.TheVariants.{Lattice, Endlattice, Labelmap}
use Rattle.sv_token.specs.declared.keywords.WordKind.TheVariants.{Endlabelmap, Point, Invariant}
use Rattle.sv_token.specs.declared.keywords.WordKind.TheVariants.{Release}
use Rattle.sv_token.specs.declared.signs.SignKind.TheVariants.{OpenParenthesis}
use Rattle.sv_token.specs.Lexed.{Lexed, lexed, tokens, refused}
use Rattle.sv_token.specs.Lexemes.{Lexeme, word, identifier, numeral, sign}
use Rattle.sv_token.specs.Words.{word_of, is_refused_word, is_reserved}
use Rattle.sv_token.proofs.Computed.{computed, the_word, the_name, the_sign, refused_at}
use Rattle.sv_token.proofs.Computed.{left_out_at, EachGives}

-- each word of the grammar
pub each_word :
    lexed
    (codes "always assign begin case default else end endcase endmodule if input localparam "
    ++ codes "module output parameter posedge reg signed wire lattice endlattice labelmap "
    ++ codes "endlabelmap point invariant $release") ≡
    tokens
    (the_word Always 1 1 ∷ the_word Assign 1 8 ∷ the_word Begin 1 15 ∷ the_word Case 1 21
    ∷ the_word Default 1 26 ∷ the_word Else 1 34 ∷ the_word End 1 39 ∷ the_word Endcase 1 43
    ∷ the_word Endmodule 1 51 ∷ the_word If 1 61 ∷ the_word Input 1 64 ∷ the_word Localparam 1 70
    ∷ the_word Module 1 81 ∷ the_word Output 1 88 ∷ the_word Parameter 1 95 ∷ the_word Posedge 1 105
    ∷ the_word Reg 1 113 ∷ the_word Signed 1 117 ∷ the_word Wire 1 124 ∷ the_word Lattice 1 129
    ∷ the_word Endlattice 1 137 ∷ the_word Labelmap 1 148 ∷ the_word Endlabelmap 1 157
    ∷ the_word Point 1 169 ∷ the_word Invariant 1 175 ∷ the_word Release 1 185 ∷ [])
unfolding computed
each_word = refl

abbrev pub identifier_in : Lexeme → List (List ℕ)
identifier_in (identifier text) = text ∷ []
identifier_in (word w) = []
identifier_in (numeral n) = []
identifier_in (sign s) = []

abbrev pub identifiers_of : Lexed → List (List ℕ)
identifiers_of (tokens ts) = flat_map (λ t. identifier_in t.lexeme) ts
identifiers_of (refused number names place) = []

-- each refused word is an identifier that is refused
pub each_refused_word :
    map is_refused_word (identifiers_of (lexed
    (codes "and automatic buf bufif0 bufif1 casex casez cell cmos config deassign defparam "
    ++ codes "design disable edge endconfig endfunction endgenerate endprimitive endspecify "
    ++ codes "endtable endtask event for force forever fork function generate genvar highz0 "
    ++ codes "highz1 ifnone incdir include initial inout instance integer join large liblist "
    ++ codes "library macromodule medium nand negedge nmos nor noshowcancelled not notif0 notif1 "
    ++ codes "or pmos primitive pull0 pull1 pulldown pullup pulsestyle_ondetect "
    ++ codes "pulsestyle_onevent rcmos real realtime release repeat rnmos rpmos rtran rtranif0 "
    ++ codes "rtranif1 scalared showcancelled small specify specparam strong0 strong1 supply0 "
    ++ codes "supply1 table task time tran tranif0 tranif1 tri tri0 tri1 triand trior trireg "
    ++ codes "unsigned use uwire vectored wait wand weak0 weak1 while wor xnor xor"))) ≡
    replicate 105 true
unfolding computed is_refused_word
each_refused_word = refl

-- a word names nothing, refused or not; other texts may
pub reserved_words :
    map is_reserved
    (codes "and" ∷ codes "point" ∷ codes "invariant" ∷ codes "$release" ∷ codes "x" ∷
    codes "And" ∷ []) ≡
    true ∷ true ∷ true ∷ true ∷ false ∷ false ∷ []
unfolding word_of is_refused_word
reserved_words = refl

-- case matters, and a name that begins or ends like a word is none
pub names_like_words :
    lexed (codes "Module module1 endmodul _if") ≡
    tokens
    (the_name (codes "Module") 1 1 ∷ the_name (codes "module1") 1 8
    ∷ the_name (codes "endmodul") 1 16 ∷ the_name (codes "_if") 1 25 ∷ [])
unfolding computed
names_like_words = refl

-- `$` and digits go on with a name
pub names_with_dollars : lexed (codes "a$1_$ _") ≡
    tokens (the_name (codes "a$1_$") 1 1 ∷ the_name (codes "_") 1 7 ∷ [])
unfolding computed
names_with_dollars = refl

-- `$release` is one word
pub release_word : lexed (codes "$release(") ≡
    tokens (the_word Release 1 1 ∷ the_sign OpenParenthesis 1 9 ∷ [])
unfolding computed
release_word = refl

-- every other name of the system is left out
pub system_names : EachGives (left_out_at (codes "system-name") 1 1)
    (codes "$releases" ∷ codes "$time" ∷ codes "$_" ∷ codes "$release$" ∷ [])
unfolding computed
system_names = refl

-- `$` alone begins no token
pub lone_dollars : EachGives (refused_at 101 1 1) (codes "$" ∷ codes "$1" ∷ codes "$ release" ∷ [])
unfolding computed
lone_dollars = refl
