-- Moves in the slots of a block go on by their signs.
use Rattle.std.specs.Prelude.{◌≡◌, ℕ, Some, List, refl}
use Rattle.std.proofs.Common.{ap, sym, ◌∙◌}
use Rattle.self_grammar.specs.declared.signs.Spot.{Spot}
use Rattle.self_grammar.specs.declared.signs.Reserved.{Reserved}
use Rattle.self_grammar.specs.declared.signs.Role.{Role}
use Rattle.self_grammar.specs.declared.signs.Role.TheVariants.{Equals, Arrow, Star, Other}
use Rattle.self_grammar.specs.declared.signs.Symbol.{Symbol}
use Rattle.self_grammar.specs.declared.signs.Symbol.TheVariants as sign
use Rattle.self_grammar.specs.Grammar as g
use Rattle.self_grammar.specs.Counts.{Limits, Mark, Context, Writer, write, quiet, placing}
use Rattle.self_grammar.specs.Scopes.{activation, scope}
use Rattle.self_grammar.specs.Spelling as s
use Rattle.self_grammar.proofs.Settled.{locals_settle}
use Rattle.self_grammar.proofs.Places.{OperandHole, block_opening}
use Rattle.self_grammar.proofs.Places as p
use Rattle.self_grammar.proofs.Moves
use Rattle.self_grammar.proofs.SlotMoves as v
use Rattle.self_grammar.proofs.LocalMoves as w'
use Rattle.self_grammar.proofs.Sound.{GoesOn, along}
use Rattle.self_grammar.proofs.SlotSound.{free_goes_on}

-- what was written before the slots of a block, and then what follows
opened_block : Limits → OperandHole → Spot → Spot → Writer → List Mark
opened_block l h q d k = p.operand_said l h (write l sign.OpenBracket q (block_opening q) (λ c. write l sign.Bar d quiet k (Moves.enter c)))

block_step : (l : Limits) (h : OperandHole) (q d : Spot) (ws : g.LocalsBefore) (x : g.Local) (k : Writer) →
    Moves.block_list l h q d ws (s.local l x (λ t. placing (s.local_items x) k) (Moves.block_scope l ws))
    ≡ opened_block l h q d (s.locals_before l ws (s.local l x (λ t. placing (s.local_items x) k)) (scope activation))
unfolding opened_block
block_step l h q d ws x k =
    ap (λ (y : Writer). p.operand_said l h (write l sign.OpenBracket q (block_opening q) (λ c. write l sign.Bar d quiet y (Moves.enter c))))
    (sym (locals_settle l ws (s.local l x (λ t. placing (s.local_items x) k)) (scope activation)))

done_goes_on : (l : Limits) (said : Writer → List Mark) (h : OperandHole) (q d : Spot) (ws : g.LocalsBefore) (y : g.Local) (pre : Context → Context) →
    ((k : Writer) → said (λ c. k (pre c)) ≡ Moves.block_list l h q d ws (s.local l y (λ t. k) (Moves.block_scope l ws))) →
    (x : w'.After) (b : Spot) (m : Moves.Move) → w'.done_move h q d ws y pre x b ≡ Some m → GoesOn l said (w'.after_symbol x) b m
unfolding opened_block
done_goes_on l said h q d ws y pre says w'.period b m is =
    along l _ _ _ _ m is (record { law = λ k. says (placing (s.local_items y) (write l sign.Period b quiet k)) ∙ block_step l h q d ws y (write l sign.Period b quiet k) })
done_goes_on l said h q d ws y pre says w'.bar b m is =
    along l _ _ _ _ m is (record { law = λ k. says (placing (s.local_items y) (write l sign.Bar b quiet k)) ∙ block_step l h q d ws y (write l sign.Bar b quiet k) })

pub local_goes_on : (l : Limits) (h : OperandHole) (q d : Spot) (ws : g.LocalsBefore) (x : Symbol) (b : Spot) (m : Moves.Move) → w'.local_move l h q d ws x b ≡ Some m → GoesOn l (Moves.before l (Moves.at_local h q d ws)) x b m
local_goes_on l h q d ws (sign.Integer z) b m is = cc
local_goes_on l h q d ws (sign.Text i j) b m is = cc
local_goes_on l h q d ws (sign.Name n t r) b m is = free_goes_on l _ (λ a. sign.Name n t a) b r (Moves.simply (v.name_event l (Moves.block_scope l ws) (Moves.label n t b)) (Moves.local_named h q d ws (Moves.label n t b))) m is (λ e. along l _ _ _ _ m e (record { law = λ k. refl }))
local_goes_on l h q d ws (sign.Primitive n) b m is = cc
local_goes_on l h q d ws sign.Restart b m is = cc
local_goes_on l h q d ws (sign.Keyword n) b m is = cc
local_goes_on l h q d ws (sign.PrimitiveKeyword n y) b m is = cc
local_goes_on l h q d ws sign.RestartKeyword b m is = cc
local_goes_on l h q d ws (sign.CapitalKeyword n y) b m is = cc
local_goes_on l h q d ws (sign.Argument n t r) b m is = free_goes_on l _ (λ a. sign.Argument n t a) b r (Moves.simply (v.argument_event l (Moves.block_scope l ws) (Moves.label n t b)) (Moves.local_done h q d ws (g.local_argument (Moves.label n t b)))) m is (λ e. along l _ _ _ _ m e (record { law = λ k. refl }))
local_goes_on l h q d ws (sign.Delegate n r) b m is = cc
local_goes_on l h q d ws (sign.Operator n r) b m is = cc
local_goes_on l h q d ws sign.OpenParen b m is = cc
local_goes_on l h q d ws sign.CloseParen b m is = cc
local_goes_on l h q d ws sign.OpenBracket b m is = cc
local_goes_on l h q d ws sign.CloseBracket b m is = cc
local_goes_on l h q d ws sign.Bar b m is = along l _ _ _ _ m is (record { law = λ k. refl })
local_goes_on l h q d ws sign.Period b m is = cc
local_goes_on l h q d ws sign.Caret b m is = cc
local_goes_on l h q d ws sign.End b m is = cc
local_goes_on l h q d ws (sign.Bad z) b m is = cc

role_goes_on : (l : Limits) (h : OperandHole) (q d : Spot) (ws : g.LocalsBefore) (w : g.Label) (e : g.Word) (r : Role) (m : Moves.Move) → w'.role_move l h q d ws w e r ≡ Some m →
    GoesOn l (Moves.before l (Moves.local_named h q d ws w)) (sign.Operator e.name r) e.spot m
role_goes_on l h q d ws w e Equals m is = along l _ _ _ _ m is (record { law = λ k. refl })
role_goes_on l h q d ws w e Arrow m is = along l _ _ _ _ m is (record { law = λ k. refl })
role_goes_on l h q d ws w e Star m is = cc
role_goes_on l h q d ws w e Other m is = cc

pub local_named_goes_on : (l : Limits) (h : OperandHole) (q d : Spot) (ws : g.LocalsBefore) (w : g.Label) (x : Symbol) (b : Spot) (m : Moves.Move) → w'.local_named_move l h q d ws w x b ≡ Some m → GoesOn l (Moves.before l (Moves.local_named h q d ws w)) x b m
local_named_goes_on l h q d ws w (sign.Integer z) b m is = cc
local_named_goes_on l h q d ws w (sign.Text i j) b m is = cc
local_named_goes_on l h q d ws w (sign.Name n t r) b m is = cc
local_named_goes_on l h q d ws w (sign.Primitive n) b m is = cc
local_named_goes_on l h q d ws w sign.Restart b m is = cc
local_named_goes_on l h q d ws w (sign.Keyword n) b m is = cc
local_named_goes_on l h q d ws w (sign.PrimitiveKeyword n y) b m is = cc
local_named_goes_on l h q d ws w sign.RestartKeyword b m is = cc
local_named_goes_on l h q d ws w (sign.CapitalKeyword n y) b m is = cc
local_named_goes_on l h q d ws w (sign.Argument n t r) b m is = cc
local_named_goes_on l h q d ws w (sign.Delegate n r) b m is = cc
local_named_goes_on l h q d ws w (sign.Operator n r) b m is = role_goes_on l h q d ws w (Moves.word n b) r m is
local_named_goes_on l h q d ws w sign.OpenParen b m is = cc
local_named_goes_on l h q d ws w sign.CloseParen b m is = cc
local_named_goes_on l h q d ws w sign.OpenBracket b m is = cc
local_named_goes_on l h q d ws w sign.CloseBracket b m is = cc
local_named_goes_on l h q d ws w sign.Bar b m is = done_goes_on l _ h q d ws (g.local_bare w) (w'.bare_pre l ws w) (λ k. refl) w'.bar b m is
local_named_goes_on l h q d ws w sign.Period b m is = done_goes_on l _ h q d ws (g.local_bare w) (w'.bare_pre l ws w) (λ k. refl) w'.period b m is
local_named_goes_on l h q d ws w sign.Caret b m is = cc
local_named_goes_on l h q d ws w sign.End b m is = cc
local_named_goes_on l h q d ws w (sign.Bad z) b m is = cc

pub local_equals_goes_on : (l : Limits) (h : OperandHole) (q d : Spot) (ws : g.LocalsBefore) (w : g.Label) (e : g.Word) (x : Symbol) (b : Spot) (m : Moves.Move) → w'.contents_move h q d ws (g.local_constant w e) x b ≡ Some m → GoesOn l (Moves.before l (Moves.local_equals h q d ws w e)) x b m
local_equals_goes_on l h q d ws w e (sign.Integer z) b m is = along l _ _ _ _ m is (record { law = λ k. refl })
local_equals_goes_on l h q d ws w e (sign.Text i j) b m is = along l _ _ _ _ m is (record { law = λ k. refl })
local_equals_goes_on l h q d ws w e (sign.Name n t r) b m is = along l _ _ _ _ m is (record { law = λ k. refl })
local_equals_goes_on l h q d ws w e (sign.Primitive n) b m is = cc
local_equals_goes_on l h q d ws w e sign.Restart b m is = cc
local_equals_goes_on l h q d ws w e (sign.Keyword n) b m is = cc
local_equals_goes_on l h q d ws w e (sign.PrimitiveKeyword n y) b m is = cc
local_equals_goes_on l h q d ws w e sign.RestartKeyword b m is = cc
local_equals_goes_on l h q d ws w e (sign.CapitalKeyword n y) b m is = cc
local_equals_goes_on l h q d ws w e (sign.Argument n t r) b m is = cc
local_equals_goes_on l h q d ws w e (sign.Delegate n r) b m is = cc
local_equals_goes_on l h q d ws w e (sign.Operator n r) b m is = cc
local_equals_goes_on l h q d ws w e sign.OpenParen b m is = cc
local_equals_goes_on l h q d ws w e sign.CloseParen b m is = cc
local_equals_goes_on l h q d ws w e sign.OpenBracket b m is = cc
local_equals_goes_on l h q d ws w e sign.CloseBracket b m is = cc
local_equals_goes_on l h q d ws w e sign.Bar b m is = cc
local_equals_goes_on l h q d ws w e sign.Period b m is = cc
local_equals_goes_on l h q d ws w e sign.Caret b m is = cc
local_equals_goes_on l h q d ws w e sign.End b m is = cc
local_equals_goes_on l h q d ws w e (sign.Bad z) b m is = cc

pub local_arrow_goes_on : (l : Limits) (h : OperandHole) (q d : Spot) (ws : g.LocalsBefore) (w : g.Label) (e : g.Word) (x : Symbol) (b : Spot) (m : Moves.Move) → w'.contents_move h q d ws (g.local_assignable w e) x b ≡ Some m → GoesOn l (Moves.before l (Moves.local_arrow h q d ws w e)) x b m
local_arrow_goes_on l h q d ws w e (sign.Integer z) b m is = along l _ _ _ _ m is (record { law = λ k. refl })
local_arrow_goes_on l h q d ws w e (sign.Text i j) b m is = along l _ _ _ _ m is (record { law = λ k. refl })
local_arrow_goes_on l h q d ws w e (sign.Name n t r) b m is = along l _ _ _ _ m is (record { law = λ k. refl })
local_arrow_goes_on l h q d ws w e (sign.Primitive n) b m is = cc
local_arrow_goes_on l h q d ws w e sign.Restart b m is = cc
local_arrow_goes_on l h q d ws w e (sign.Keyword n) b m is = cc
local_arrow_goes_on l h q d ws w e (sign.PrimitiveKeyword n y) b m is = cc
local_arrow_goes_on l h q d ws w e sign.RestartKeyword b m is = cc
local_arrow_goes_on l h q d ws w e (sign.CapitalKeyword n y) b m is = cc
local_arrow_goes_on l h q d ws w e (sign.Argument n t r) b m is = cc
local_arrow_goes_on l h q d ws w e (sign.Delegate n r) b m is = cc
local_arrow_goes_on l h q d ws w e (sign.Operator n r) b m is = cc
local_arrow_goes_on l h q d ws w e sign.OpenParen b m is = cc
local_arrow_goes_on l h q d ws w e sign.CloseParen b m is = cc
local_arrow_goes_on l h q d ws w e sign.OpenBracket b m is = cc
local_arrow_goes_on l h q d ws w e sign.CloseBracket b m is = cc
local_arrow_goes_on l h q d ws w e sign.Bar b m is = cc
local_arrow_goes_on l h q d ws w e sign.Period b m is = cc
local_arrow_goes_on l h q d ws w e sign.Caret b m is = cc
local_arrow_goes_on l h q d ws w e sign.End b m is = cc
local_arrow_goes_on l h q d ws w e (sign.Bad z) b m is = cc

path_goes_on : (l : Limits) (h : OperandHole) (q d : Spot) (ws : g.LocalsBefore) (f : g.Local) (n t : ℕ) (r : Reserved) (b : Spot) (m : Moves.Move) → w'.path_move h q d ws f (Moves.any n t r b) ≡ Some m →
    GoesOn l (Moves.before l (Moves.local_done h q d ws f)) (sign.Name n t r) b m
path_goes_on l h q d ws (g.local_argument w) n t r b m is = cc
path_goes_on l h q d ws (g.local_bare w) n t r b m is = cc
path_goes_on l h q d ws (g.local_assignable w e (g.integer z c)) n t r b m is = cc
path_goes_on l h q d ws (g.local_assignable w e (g.string c)) n t r b m is = cc
path_goes_on l h q d ws (g.local_assignable w e (g.path c)) n t r b m is = along l _ _ _ _ m is (record { law = λ k. refl })
path_goes_on l h q d ws (g.local_constant w e (g.integer z c)) n t r b m is = cc
path_goes_on l h q d ws (g.local_constant w e (g.string c)) n t r b m is = cc
path_goes_on l h q d ws (g.local_constant w e (g.path c)) n t r b m is = along l _ _ _ _ m is (record { law = λ k. refl })

pub local_done_goes_on : (l : Limits) (h : OperandHole) (q d : Spot) (ws : g.LocalsBefore) (f : g.Local) (x : Symbol) (b : Spot) (m : Moves.Move) → w'.local_done_move h q d ws f x b ≡ Some m → GoesOn l (Moves.before l (Moves.local_done h q d ws f)) x b m
local_done_goes_on l h q d ws f (sign.Integer z) b m is = cc
local_done_goes_on l h q d ws f (sign.Text i j) b m is = cc
local_done_goes_on l h q d ws f (sign.Name n t r) b m is = path_goes_on l h q d ws f n t r b m is
local_done_goes_on l h q d ws f (sign.Primitive n) b m is = cc
local_done_goes_on l h q d ws f sign.Restart b m is = cc
local_done_goes_on l h q d ws f (sign.Keyword n) b m is = cc
local_done_goes_on l h q d ws f (sign.PrimitiveKeyword n y) b m is = cc
local_done_goes_on l h q d ws f sign.RestartKeyword b m is = cc
local_done_goes_on l h q d ws f (sign.CapitalKeyword n y) b m is = cc
local_done_goes_on l h q d ws f (sign.Argument n t r) b m is = cc
local_done_goes_on l h q d ws f (sign.Delegate n r) b m is = cc
local_done_goes_on l h q d ws f (sign.Operator n r) b m is = cc
local_done_goes_on l h q d ws f sign.OpenParen b m is = cc
local_done_goes_on l h q d ws f sign.CloseParen b m is = cc
local_done_goes_on l h q d ws f sign.OpenBracket b m is = cc
local_done_goes_on l h q d ws f sign.CloseBracket b m is = cc
local_done_goes_on l h q d ws f sign.Bar b m is = done_goes_on l _ h q d ws f Moves.stay (λ k. refl) w'.bar b m is
local_done_goes_on l h q d ws f sign.Period b m is = done_goes_on l _ h q d ws f Moves.stay (λ k. refl) w'.period b m is
local_done_goes_on l h q d ws f sign.Caret b m is = cc
local_done_goes_on l h q d ws f sign.End b m is = cc
local_done_goes_on l h q d ws f (sign.Bad z) b m is = cc
