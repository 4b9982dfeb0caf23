-- The code's turns in a list of slots are the grammar's moves.
use Rattle.std.specs.Prelude.{◌≡◌, ℕ, Bool, true, false, Option, None, Some, List, [], ◌∷◌, refl}
use Rattle.std.proofs.Common.{ap, sym, subst}
use Rattle.self_grammar.specs.declared.signs.Spot.{Spot}
use Rattle.self_grammar.specs.declared.signs.Reserved.{Reserved}
use Rattle.self_grammar.specs.declared.signs.Role.{Role}
use Rattle.self_grammar.specs.declared.signs.Reserved.TheVariants.{Free, Itself, Resend}
use Rattle.self_grammar.specs.declared.signs.Role.TheVariants.{Equals, Arrow, Star, Other}
use Rattle.self_grammar.specs.declared.signs.Symbol.{Symbol}
use Rattle.self_grammar.specs.declared.signs.Symbol.TheVariants as sign
use Rattle.self_grammar.specs.declared.pieces.Words.{Words}
use Rattle.self_grammar.specs.declared.pieces.Words.TheVariants as words
use Rattle.self_grammar.specs.declared.pieces.SlotForm.TheVariants as form
use Rattle.self_grammar.specs.declared.pieces.Item.{Item}
use Rattle.self_grammar.specs.declared.pieces.Item.TheVariants as items
use Rattle.self_grammar.specs.Parts.{followed_by}
use Rattle.self_grammar.specs.Grammar as g
use Rattle.self_grammar.specs.Counts.{Limits, Context, Event, quiet, saying}
use Rattle.self_grammar.specs.Scopes.{Scope, scope, holder, either, activation, again, not_plain}
use Rattle.self_grammar.specs.Spelling as s
use Rattle.self_grammar.proofs.Settled.{name_scope, set_scope, argument_scope, keyword_scope, operator_scope, head_named, head_inner, slot_scope, member_scope, slots_scope}
use Rattle.self_grammar.proofs.Places as p
use Rattle.self_grammar.proofs.Moves as m
use Rattle.self_grammar.proofs.SlotMoves as v
use Rattle.reader_states.specs.declared.frames.Heading.{Heading}
use Rattle.reader_states.specs.declared.frames.Frame.{Frame}
use Rattle.reader_states.specs.declared.frames.Frame.TheVariants as f
use Rattle.reader_states.specs.declared.frames.At.TheVariants as at
use Rattle.reader_states.specs.declared.frames.AtContents.TheVariants as in_contents
use Rattle.reader_states.specs.declared.frames.AtEnd.TheVariants as end
use Rattle.reader_states.specs.declared.frames.AtName.TheVariants as name
use Rattle.reader_states.specs.declared.frames.Body.TheVariants as body
use Rattle.reader_states.specs.declared.frames.Expression.TheVariants as expression
use Rattle.reader_states.specs.declared.frames.Slots.TheVariants as slots
use Rattle.reader_states.specs.Turns.{Turn, simply}
use Rattle.code_reader.specs.CodeTurns.{begun}
use Rattle.slot_reader.specs.SlotTurns as t
use Rattle.contents_reader.specs.ContentTurns as held
use Rattle.reader_states.specs.Turns as turns
use Rattle.self_reader.proofs.Shown.{Follows, label_in, keyword_heading, lists, start, contents, data_frames, member_item, member_goes_on, ends_with_path, stand}
use Rattle.self_reader.proofs.CodeFollows.{begin_follows}

-- The end of a list.
shut_is : (l : Limits) (h : p.Contents) (q : Spot) (u : Scope) (c : Context) →
    t.shut_at q u (contents l h) c ≡ simply c (record quiet { broken = s.at_bar (p.named_of l h) u }) (at.Contents (in_contents.Shut q) u) (contents l h)
shut_is l (p.undecided h w e) q u c = refl
shut_is l (p.coded h (g.unary_head w) e) q u c = refl
shut_is l (p.coded h (g.operator_with o a) e) q u c = refl
shut_is l (p.coded h (g.operator o) e) q u c = refl
shut_is l (p.coded h (g.keyword_with n) e) q u c = refl
shut_is l (p.coded h (g.keyword n) e) q u c = refl

list_ends_at_bar : (l : Limits) (c : Context) (h : p.Start) (b : Spot) → Follows l c (t.at_bar (start l h (p.start_scope l h)) c) (v.list_end l h v.bar b)
list_ends_at_bar l c p.lone b = tt
list_ends_at_bar l c (p.listed (p.in_world ms)) b = tt
list_ends_at_bar l c (p.listed (p.in_bars h q d ss)) b =
    subst (λ y. Follows l c y (v.list_end l (p.listed (p.in_bars h q d ss)) v.bar b)) (sym (shut_is l h q (p.scope_of l (p.in_bars h q d ss)) c)) (refl, refl, λ d. refl, refl)
list_ends_at_bar l c (p.listed (p.in_object h q d ss)) b = (refl, refl, λ d. refl, refl)

list_ends_at_end : (l : Limits) (c : Context) (h : p.Start) (b : Spot) → Follows l c (t.at_end (start l h (p.start_scope l h)) c) (v.list_end l h v.end b)
list_ends_at_end l c p.lone b = tt
list_ends_at_end l c (p.listed (p.in_world ms)) b = (refl, refl, λ d. refl, refl)
list_ends_at_end l c (p.listed (p.in_bars h q d ss)) b = tt
list_ends_at_end l c (p.listed (p.in_object h q d ss)) b = tt

-- A slot ends.
member_done_ends : (l : Limits) (c : Context) (h : p.Lists) (y : g.Member) (pre : Context → Context) (i : Item) → s.member_items y ≡ i ∷ [] → (x : v.After) (b : Spot) →
    Follows l c (t.done_turn (lists l h (member_scope l y (p.scope_of l h))) (pre c) (Some i) (v.after_symbol x)) (v.done_move l h (g.member y) pre x b)
member_done_ends l c (p.in_world ms) y pre i e v.period b = (ap (λ is. turns.placed is (pre c)) (sym e), refl, λ d. refl, refl)
member_done_ends l c (p.in_world ms) y pre i e v.bar b = tt
member_done_ends l c (p.in_world ms) y pre i e v.end b = (ap (λ is. turns.placed is (pre c)) (sym e), refl, λ d. refl, refl)
member_done_ends l c (p.in_bars h q d ss) y pre i e v.period b = (ap (λ is. turns.placed is (pre c)) (sym e), refl, λ d. refl, refl)
member_done_ends l c (p.in_bars h q d ss) y pre i e v.bar b =
    subst (λ z. Follows l c z (v.done_move l (p.in_bars h q d ss) (g.member y) pre v.bar b))
    (sym (shut_is l h q (member_scope l y (p.scope_of l (p.in_bars h q d ss))) (turns.placed (i ∷ []) (pre c))))
    (ap (λ is. turns.placed is (pre c)) (sym e), refl, λ d. refl, refl)
member_done_ends l c (p.in_bars h q d ss) y pre i e v.end b = tt
member_done_ends l c (p.in_object h q d ss) y pre i e v.period b = (ap (λ is. turns.placed is (pre c)) (sym e), refl, λ d. refl, refl)
member_done_ends l c (p.in_object h q d ss) y pre i e v.bar b = (ap (λ is. turns.placed is (pre c)) (sym e), refl, λ d. refl, refl)
member_done_ends l c (p.in_object h q d ss) y pre i e v.end b = tt

argument_ends : (l : Limits) (c : Context) (h : p.Lists) (w : g.Label) (x : v.After) (b : Spot) →
    Follows l c (t.argument_done (lists l h (slot_scope l (g.argument w) (p.scope_of l h))) c (v.after_symbol x)) (v.done_move l h (g.argument w) m.stay x b)
argument_ends l c (p.in_world ms) w v.period b = tt
argument_ends l c (p.in_world ms) w v.bar b = tt
argument_ends l c (p.in_world ms) w v.end b = tt
argument_ends l c (p.in_bars h q d ss) w v.period b = (refl, refl, λ d. refl, refl)
argument_ends l c (p.in_bars h q d ss) w v.bar b =
    subst (λ z. Follows l c z (v.done_move l (p.in_bars h q d ss) (g.argument w) m.stay v.bar b))
    (sym (shut_is l h q (slot_scope l (g.argument w) (p.scope_of l (p.in_bars h q d ss))) (turns.placed [] c))) (refl, refl, λ d. refl, refl)
argument_ends l c (p.in_bars h q d ss) w v.end b = tt
argument_ends l c (p.in_object h q d ss) w v.period b = (refl, refl, λ d. refl, refl)
argument_ends l c (p.in_object h q d ss) w v.bar b = (refl, refl, λ d. refl, refl)
argument_ends l c (p.in_object h q d ss) w v.end b = tt

pub argument_done_follows : (l : Limits) (c : Context) (h : p.Lists) (w : g.Label) (x : Symbol) (b : Spot) →
    Follows l c (t.argument_done_turn (lists l h (argument_scope w (p.scope_of l h))) c x) (v.argument_done_move l h w x b)
argument_done_follows l c h w sign.Period b = argument_ends l c h w v.period b
argument_done_follows l c h w sign.Bar b = argument_ends l c h w v.bar b
argument_done_follows l c h w sign.End b = argument_ends l c h w v.end b
argument_done_follows l c h w _ b = tt

-- a path behind a slot may go on
goes_on : (l : Limits) (c : Context) (h : p.Lists) (y : g.Member) (n r : ℕ) (k : Reserved) (b : Spot) →
    Follows l c (t.path_turn (member_item y) (member_goes_on y) (lists l h (member_scope l y (p.scope_of l h))) c n b) (v.path_move h y (m.any n r k b))
goes_on l c h (g.constant w e (g.simple (g.integer z q))) n r k b = tt
goes_on l c h (g.constant w e (g.simple (g.string q))) n r k b = tt
goes_on l c h (g.constant w e (g.simple (g.path q))) n r k b = (refl, refl, λ d. refl, refl)
goes_on l c h (g.constant w e (g.object q)) n r k b = tt
goes_on l c h (g.assignable w a (g.simple (g.integer z q))) n r k b = tt
goes_on l c h (g.assignable w a (g.simple (g.string q))) n r k b = tt
goes_on l c h (g.assignable w a (g.simple (g.path q))) n r k b = (refl, refl, λ d. refl, refl)
goes_on l c h (g.assignable w a (g.object q)) n r k b = tt
goes_on l c h (g.bare w) n r k b = tt
goes_on l c h (g.parent w x e (g.simple (g.integer z q))) n r k b = tt
goes_on l c h (g.parent w x e (g.simple (g.string q))) n r k b = tt
goes_on l c h (g.parent w x e (g.simple (g.path q))) n r k b = (refl, refl, λ d. refl, refl)
goes_on l c h (g.parent w x e (g.object q)) n r k b = tt
goes_on l c h (g.coded q) n r k b = tt

item_is : (y : g.Member) → s.member_items y ≡ member_item y ∷ []
item_is (g.constant w e d) = refl
item_is (g.assignable w a d) = refl
item_is (g.bare w) = refl
item_is (g.parent w x e d) = refl
item_is (g.coded (g.method h e q)) = refl

pub member_done_follows : (l : Limits) (c : Context) (h : p.Lists) (y : g.Member) (x : Symbol) (b : Spot) →
    Follows l c (t.member_done_turn (member_item y) (member_goes_on y) (lists l h (member_scope l y (p.scope_of l h))) c x b) (v.member_done_move l h y x b)
member_done_follows l c h y (sign.Name n r k) b = goes_on l c h y n r k b
member_done_follows l c h y sign.Period b = member_done_ends l c h y m.stay (member_item y) (item_is y) v.period b
member_done_follows l c h y sign.Bar b = member_done_ends l c h y m.stay (member_item y) (item_is y) v.bar b
member_done_follows l c h y sign.End b = member_done_ends l c h y m.stay (member_item y) (item_is y) v.end b
member_done_follows l c h y _ b = tt

-- behind a method
coded_ends : (l : Limits) (c : Context) (h : p.Lists) (n : g.Head) (e : g.Word) (q : g.Method) (x : v.After) (b : Spot) →
    Follows l c (t.method_done (items.Slot (s.head_words n) form.Method (s.head_spot n)) (lists l h (head_named l n (p.scope_of l h)).around) c (v.after_symbol x))
    (v.done_move l h (g.member (g.coded (g.method n e q))) m.stay x b)
coded_ends l c (p.in_world ms) n e q x b = member_done_ends l c (p.in_world ms) (g.coded (g.method n e q)) m.stay (items.Slot (s.head_words n) form.Method (s.head_spot n)) refl x b
coded_ends l c (p.in_bars h o d ss) n e q x b =
    member_done_ends l c (p.in_bars h o d ss) (g.coded (g.method n e q)) m.stay (items.Slot (s.head_words n) form.Method (s.head_spot n)) refl x b
coded_ends l c (p.in_object h o d ss) n e q x b =
    member_done_ends l c (p.in_object h o d ss) (g.coded (g.method n e q)) m.stay (items.Slot (s.head_words n) form.Method (s.head_spot n)) refl x b

method_ends : (l : Limits) (c : Context) (h : p.Contents) (q : g.Method) (x : v.After) (b : Spot) →
    Follows l c (t.slot_done (contents l h) c (v.after_symbol x)) (v.method_done l h q x b)
method_ends l c (p.undecided h w e) q x b = coded_ends l c h (g.unary_head w) e q x b
method_ends l c (p.coded (p.listed h) n e) q x b = coded_ends l c h n e q x b
method_ends l c (p.coded p.lone n e) q v.period b = (refl, refl, λ d. refl, refl)
method_ends l c (p.coded p.lone n e) q v.bar b = tt
method_ends l c (p.coded p.lone n e) q v.end b = (refl, refl, λ d. refl, refl)

pub behind_follows : (l : Limits) (c : Context) (h : p.Contents) (q : g.Method) (x : Symbol) (b : Spot) → Follows l c (t.behind_turn (contents l h) c x) (v.behind_move l h q x b)
behind_follows l c h q sign.Period b = method_ends l c h q v.period b
behind_follows l c h q sign.Bar b = method_ends l c h q v.bar b
behind_follows l c h q sign.End b = method_ends l c h q v.end b
behind_follows l c h q _ b = tt

pub lone_stopped_follows : (l : Limits) (c : Context) (y : g.Head) (e : g.Word) (q : g.Method) (r : Spot) (x : Symbol) (b : Spot) →
    Follows l c (t.lone_stopped_turn (f.Slots slots.Edit ∷ []) c x) (v.lone_stopped_move y e q r x b)
lone_stopped_follows l c y e q r sign.End b = (refl, refl, λ d. refl, refl)
lone_stopped_follows l c y e q r _ b = tt

-- Where a slot is wanted.
name_follows : (l : Limits) (c : Context) (h : p.Start) (n r : ℕ) (b : Spot) →
    Follows l c (t.named_at l n b (at.Name (name.Named (turns.label n r b))) (start l h (p.start_scope l h)) c)
    (m.simply (v.name_event l (p.start_scope l h) (m.label n r b)) (m.named h (m.label n r b)))
name_follows l c p.lone n r b = (refl, refl, λ d. refl, refl)
name_follows l c (p.listed (p.in_world ms)) n r b = (refl, refl, λ d. refl, refl)
name_follows l c (p.listed (p.in_bars h q d ss)) n r b = (refl, refl, λ d. refl, refl)
name_follows l c (p.listed (p.in_object h q d ss)) n r b = (refl, refl, λ d. refl, refl)

operator_follows : (l : Limits) (c : Context) (h : p.Start) (n : ℕ) (k : Role) (b : Spot) →
    Follows l c (t.named_at l n b (at.Name (name.Operator n b)) (start l h (p.start_scope l h)) c)
    (m.simply (v.operator_event l (p.start_scope l h) (v.operator_of n k b)) (m.operator_named h (v.operator_of n k b)))
operator_follows l c p.lone n k b = (refl, refl, λ d. refl, refl)
operator_follows l c (p.listed (p.in_world ms)) n k b = (refl, refl, λ d. refl, refl)
operator_follows l c (p.listed (p.in_bars h q d ss)) n k b = (refl, refl, λ d. refl, refl)
operator_follows l c (p.listed (p.in_object h q d ss)) n k b = (refl, refl, λ d. refl, refl)

keyword_follows : (l : Limits) (c : Context) (h : p.Start) (n : ℕ) (b : Spot) →
    Follows l c (t.slot_turn l (start l h (p.start_scope l h)) c (sign.Keyword n) b)
    (m.simply (v.keyword_event l (p.start_scope l h) (m.word n b)) (m.keyword_named h (g.keyword_first (m.word n b))))
keyword_follows l c p.lone n b = (refl, refl, λ d. refl, refl)
keyword_follows l c (p.listed (p.in_world ms)) n b = (refl, refl, λ d. refl, refl)
keyword_follows l c (p.listed (p.in_bars h q d ss)) n b = (refl, refl, λ d. refl, refl)
keyword_follows l c (p.listed (p.in_object h q d ss)) n b = (refl, refl, λ d. refl, refl)

argument_follows : (l : Limits) (c : Context) (h : p.Start) (n r : ℕ) (b : Spot) →
    Follows l c (t.argument_at l n b (start l h (p.start_scope l h)) c) (v.argument_move l h (m.label n r b))
argument_follows l c p.lone n r b = tt
argument_follows l c (p.listed (p.in_world ms)) n r b = tt
argument_follows l c (p.listed (p.in_bars h q d ss)) n r b = (refl, refl, λ d. refl, refl)
argument_follows l c (p.listed (p.in_object h q d ss)) n r b = (refl, refl, λ d. refl, refl)

pub slot_follows : (l : Limits) (c : Context) (h : p.Start) (x : Symbol) (b : Spot) → Follows l c (t.slot_turn l (start l h (p.start_scope l h)) c x b) (v.slot_move l h x b)
slot_follows l c h (sign.Name n r Free) b = name_follows l c h n r b
slot_follows l c h (sign.Name n r Itself) b = tt
slot_follows l c h (sign.Name n r Resend) b = tt
slot_follows l c h (sign.Argument n r Free) b = argument_follows l c h n r b
slot_follows l c h (sign.Argument n r Itself) b = tt
slot_follows l c h (sign.Argument n r Resend) b = tt
slot_follows l c h (sign.Operator n k) b = operator_follows l c h n k b
slot_follows l c h (sign.Keyword n) b = keyword_follows l c h n b
slot_follows l c h sign.Bar b = list_ends_at_bar l c h b
slot_follows l c h sign.End b = list_ends_at_end l c h b
slot_follows l c h _ b = tt

-- Behind a part of the name of a slot.
equals_follows : (l : Limits) (c : Context) (h : p.Start) (w : g.Label) (e : g.Word) →
    Follows l c (t.equals_turn (label_in w) (start l h (name_scope l w (p.start_scope l h))) c) (v.named_role l h w e Equals)
equals_follows l c p.lone w e = (refl, refl, λ d. refl, refl)
equals_follows l c (p.listed (p.in_world ms)) w e = (refl, refl, λ d. refl, refl)
equals_follows l c (p.listed (p.in_bars h q d ss)) w e = (refl, refl, λ d. refl, refl)
equals_follows l c (p.listed (p.in_object h q d ss)) w e = (refl, refl, λ d. refl, refl)

arrow_follows : (l : Limits) (c : Context) (h : p.Start) (w : g.Label) (e : g.Word) →
    Follows l c (t.arrow_turn (label_in w) (start l h (name_scope l w (p.start_scope l h))) c) (v.named_role l h w e Arrow)
arrow_follows l c p.lone w e = tt
arrow_follows l c (p.listed (p.in_world ms)) w e = (refl, refl, λ d. refl, refl)
arrow_follows l c (p.listed (p.in_bars h q d ss)) w e = (refl, refl, λ d. refl, refl)
arrow_follows l c (p.listed (p.in_object h q d ss)) w e = (refl, refl, λ d. refl, refl)

star_follows : (l : Limits) (c : Context) (h : p.Start) (w : g.Label) (e : g.Word) →
    Follows l c (t.star_turn (label_in w) (start l h (name_scope l w (p.start_scope l h))) c) (v.named_role l h w e Star)
star_follows l c p.lone w e = tt
star_follows l c (p.listed (p.in_world ms)) w e = (refl, refl, λ d. refl, refl)
star_follows l c (p.listed (p.in_bars h q d ss)) w e = (refl, refl, λ d. refl, refl)
star_follows l c (p.listed (p.in_object h q d ss)) w e = (refl, refl, λ d. refl, refl)

role_follows : (l : Limits) (c : Context) (h : p.Start) (w : g.Label) (e : g.Word) (r : Role) →
    Follows l c (t.named_role (label_in w) (start l h (name_scope l w (p.start_scope l h))) c r) (v.named_role l h w e r)
role_follows l c h w e Equals = equals_follows l c h w e
role_follows l c h w e Arrow = arrow_follows l c h w e
role_follows l c h w e Star = star_follows l c h w e
role_follows l c p.lone w e Other = tt
role_follows l c (p.listed h) w e Other = tt

bare_ends : (l : Limits) (c : Context) (h : p.Lists) (w : g.Label) (x : v.After) (b : Spot) →
    Follows l c (t.bare_turn (label_in w) (lists l h (name_scope l w (p.scope_of l h))) c (v.after_symbol x)) (v.bare_move l (p.listed h) w x b)
bare_ends l c (p.in_world ms) w x b =
    member_done_ends l c (p.in_world ms) (g.bare w) (m.tell (again (name_scope l w (p.scope_of l (p.in_world ms))) (w.setter ∷ []) w.spot)) (s.slot_item w (form.Bare w.setter)) refl x b
bare_ends l c (p.in_bars h q d ss) w x b =
    member_done_ends l c (p.in_bars h q d ss) (g.bare w) (m.tell (again (name_scope l w (p.scope_of l (p.in_bars h q d ss))) (w.setter ∷ []) w.spot))
    (s.slot_item w (form.Bare w.setter)) refl x b
bare_ends l c (p.in_object h q d ss) w x b =
    member_done_ends l c (p.in_object h q d ss) (g.bare w) (m.tell (again (name_scope l w (p.scope_of l (p.in_object h q d ss))) (w.setter ∷ []) w.spot))
    (s.slot_item w (form.Bare w.setter)) refl x b

pub named_follows : (l : Limits) (c : Context) (h : p.Start) (w : g.Label) (x : Symbol) (b : Spot) →
    Follows l c (t.named_turn (label_in w) (start l h (name_scope l w (p.start_scope l h))) c x b) (v.named_move l h w x b)
named_follows l c h w (sign.Operator n r) b = role_follows l c h w (m.word n b) r
named_follows l c (p.listed h) w sign.Period b = bare_ends l c h w v.period b
named_follows l c (p.listed h) w sign.Bar b = bare_ends l c h w v.bar b
named_follows l c (p.listed h) w sign.End b = bare_ends l c h w v.end b
named_follows l c p.lone w sign.Period b = tt
named_follows l c p.lone w sign.Bar b = tt
named_follows l c p.lone w sign.End b = tt
named_follows l c h w _ b = tt

pub starred_follows : (l : Limits) (c : Context) (h : p.Lists) (w : g.Label) (y : g.Word) (x : Symbol) (b : Spot) →
    Follows l c (t.starred_turn (label_in w) (lists l h (name_scope l w (p.scope_of l h))) c x b) (v.starred_move h w y x b)
starred_follows l c h w y (sign.Operator n Equals) b = (refl, refl, λ d. refl, refl)
starred_follows l c h w y (sign.Operator n Arrow) b = tt
starred_follows l c h w y (sign.Operator n Star) b = tt
starred_follows l c h w y (sign.Operator n Other) b = tt
starred_follows l c h w y _ b = tt

pub operator_named_follows : (l : Limits) (c : Context) (h : p.Start) (o : g.AnyOperator) (x : Symbol) (b : Spot) →
    Follows l c (t.operator_named_turn l o.word.name o.word.spot (start l h (operator_scope l o (p.start_scope l h))) c x b) (v.operator_named_move l h o x b)
operator_named_follows l c h o (sign.Name n r Free) b = (refl, refl, λ d. refl, refl)
operator_named_follows l c h o (sign.Name n r Itself) b = tt
operator_named_follows l c h o (sign.Name n r Resend) b = tt
operator_named_follows l c h o (sign.Operator n Equals) b = (refl, refl, λ d. refl, refl)
operator_named_follows l c h o (sign.Operator n Arrow) b = tt
operator_named_follows l c h o (sign.Operator n Star) b = tt
operator_named_follows l c h o (sign.Operator n Other) b = tt
operator_named_follows l c h o _ b = tt

pub operator_argued_follows : (l : Limits) (c : Context) (h : p.Start) (o : g.AnyOperator) (a : g.Label) (x : Symbol) (b : Spot) →
    Follows l c (t.operator_argued_turn o.word.name o.word.spot (argument_scope a (scope activation)) (start l h (operator_scope l o (p.start_scope l h))) c x b)
    (v.operator_argued_move h o a x b)
operator_argued_follows l c h o a (sign.Operator n Equals) b = (refl, refl, λ d. refl, refl)
operator_argued_follows l c h o a (sign.Operator n Arrow) b = tt
operator_argued_follows l c h o a (sign.Operator n Star) b = tt
operator_argued_follows l c h o a (sign.Operator n Other) b = tt
operator_argued_follows l c h o a _ b = tt

-- the name of a slot in keywords has two parts or more behind its second keyword
no_first : (l : Limits) (h : Heading) (w : Words) (k : ℕ) (fs : List Frame) (c : Context) (n : ℕ) (b : Spot) → t.first_argument l h (followed_by w k) fs c n b ≡ None
no_first l h (words.One a1) k fs c n b = refl
no_first l h (words.Two a1 a2) k fs c n b = refl
no_first l h (words.Three a1 a2 a3) k fs c n b = refl
no_first l h (words.Four a1 a2 a3 a4) k fs c n b = refl
no_first l h (words.Five a1 a2 a3 a4 a5) k fs c n b = refl

first_follows : (l : Limits) (c : Context) (h : p.Start) (n : g.KeywordName) (k r : ℕ) (b : Spot) →
    Follows l c (t.first_argument l (keyword_heading n) (s.words n) (start l h (keyword_scope l n (p.start_scope l h))) c k b) (v.first_argument l h n (m.label k r b))
first_follows l c h (g.keyword_first w) k r b = (refl, refl, λ d. refl, refl)
first_follows l c h (g.keyword_next n q) k r b =
    subst (λ z. Follows l c z None)
    (sym (no_first l (keyword_heading (g.keyword_next n q)) (s.words n) q.word.name (start l h (keyword_scope l (g.keyword_next n q) (p.start_scope l h))) c k b)) tt

coded_follows : (l : Limits) (c : Context) (h : p.Start) (n : g.KeywordName) (e : g.Word) →
    Follows l c (t.coded_turn (keyword_heading n) (scope activation) (start l h (keyword_scope l n (p.start_scope l h))) c)
    (m.simply (v.keyword_broken l h n) (m.holding (p.coded h (g.keyword n) e)))
coded_follows l c p.lone n e = (refl, refl, λ d. refl, refl)
coded_follows l c (p.listed (p.in_world ms)) n e = (refl, refl, λ d. refl, refl)
coded_follows l c (p.listed (p.in_bars h q d ss)) n e = (refl, refl, λ d. refl, refl)
coded_follows l c (p.listed (p.in_object h q d ss)) n e = (refl, refl, λ d. refl, refl)

pub keyword_named_follows : (l : Limits) (c : Context) (h : p.Start) (n : g.KeywordName) (x : Symbol) (b : Spot) →
    Follows l c (t.keyword_named_turn l (keyword_heading n) (start l h (keyword_scope l n (p.start_scope l h))) c x b) (v.keyword_named_move l h n x b)
keyword_named_follows l c h n (sign.Name k r Free) b = first_follows l c h n k r b
keyword_named_follows l c h n (sign.Name k r Itself) b = tt
keyword_named_follows l c h n (sign.Name k r Resend) b = tt
keyword_named_follows l c h n (sign.CapitalKeyword k y) b = (refl, refl, λ d. refl, refl)
keyword_named_follows l c h n (sign.Operator k Equals) b = coded_follows l c h n (m.word k b)
keyword_named_follows l c h n (sign.Operator k Arrow) b = tt
keyword_named_follows l c h n (sign.Operator k Star) b = tt
keyword_named_follows l c h n (sign.Operator k Other) b = tt
keyword_named_follows l c h n _ b = tt

argued_follows : (l : Limits) (c : Context) (h : p.Start) (n : g.KeywordHead) (e : g.Word) →
    Follows l c (t.coded_turn (keyword_heading (s.head_name n)) (head_inner n) (start l h (keyword_scope l (s.head_name n) (p.start_scope l h))) c)
    (m.simply (v.keyword_broken l h (s.head_name n)) (m.holding (p.coded h (g.keyword_with n) e)))
argued_follows l c p.lone n e = (refl, refl, λ d. refl, refl)
argued_follows l c (p.listed (p.in_world ms)) n e = (refl, refl, λ d. refl, refl)
argued_follows l c (p.listed (p.in_bars h q d ss)) n e = (refl, refl, λ d. refl, refl)
argued_follows l c (p.listed (p.in_object h q d ss)) n e = (refl, refl, λ d. refl, refl)

pub keyword_argued_follows : (l : Limits) (c : Context) (h : p.Start) (n : g.KeywordHead) (x : Symbol) (b : Spot) →
    Follows l c (t.keyword_argued_turn l (keyword_heading (s.head_name n)) (head_inner n) (start l h (keyword_scope l (s.head_name n) (p.start_scope l h))) c x b)
    (v.keyword_argued_move l h n x b)
keyword_argued_follows l c h n (sign.CapitalKeyword k y) b = (refl, refl, λ d. refl, refl)
keyword_argued_follows l c h n (sign.Operator k Equals) b = argued_follows l c h n (m.word k b)
keyword_argued_follows l c h n (sign.Operator k Arrow) b = tt
keyword_argued_follows l c h n (sign.Operator k Star) b = tt
keyword_argued_follows l c h n (sign.Operator k Other) b = tt
keyword_argued_follows l c h n _ b = tt

pub keyword_wanting_follows : (l : Limits) (c : Context) (h : p.Start) (n : g.KeywordHead) (q : g.Part) (x : Symbol) (b : Spot) →
    Follows l c
    (t.keyword_wanting_turn l (keyword_heading (g.keyword_next (s.head_name n) q)) (head_inner n) (start l h (keyword_scope l (s.head_name n) (p.start_scope l h))) c x b)
    (v.keyword_wanting_move l h n q x b)
keyword_wanting_follows l c h n q (sign.Name k r Free) b = (refl, refl, λ d. refl, refl)
keyword_wanting_follows l c h n q (sign.Name k r Itself) b = tt
keyword_wanting_follows l c h n q (sign.Name k r Resend) b = tt
keyword_wanting_follows l c h n q _ b = tt

-- Where contents are wanted.
simple_follows : (l : Limits) (c : Context) (h : p.Contents) (d : g.Simple) (i : Item) (k : Bool) → ends_with_path d ≡ k →
    Follows l c (held.simple_constant i k (contents l h) c) (v.simple_move h d i)
simple_follows l c (p.undecided h w e) d i k is =
    (refl, refl, λ d. refl, ap (λ z. stand (at.Behind (end.Member (s.slot_item w form.Constant) z)) (lists l h (name_scope l w (p.scope_of l h)))) (sym is))
simple_follows l c (p.coded h x e) d i k is = tt

paren_follows : (l : Limits) (c : Context) (h : p.Contents) (b : Spot) →
    Follows l c (held.paren_turn b (p.named_of l h).inner (contents l h) c)
    (m.simply (record (s.opening_item b) { next = s.wants_bar (p.named_of l h) }) (m.opened h b))
paren_follows l c (p.undecided h w e) b = (refl, refl, λ d. refl, refl)
paren_follows l c (p.coded h (g.unary_head w) e) b = (refl, refl, λ d. refl, refl)
paren_follows l c (p.coded h (g.operator_with o a) e) b = (refl, refl, λ d. refl, refl)
paren_follows l c (p.coded h (g.operator o) e) b = (refl, refl, λ d. refl, refl)
paren_follows l c (p.coded h (g.keyword_with n) e) b = (refl, refl, λ d. refl, refl)
paren_follows l c (p.coded h (g.keyword n) e) b = (refl, refl, λ d. refl, refl)

pub holding_follows : (l : Limits) (c : Context) (h : p.Contents) (x : Symbol) (b : Spot) →
    Follows l c (held.holding_turn (p.named_of l h).inner (contents l h) c x b) (v.holding_move l h x b)
holding_follows l c h (sign.Integer z) b = simple_follows l c h (g.integer z b) (items.Integer z) false refl
holding_follows l c h (sign.Text i j) b = simple_follows l c h (g.string (record { start = i; end = j; spot = b })) (items.Text i j) false refl
holding_follows l c h (sign.Name n r k) b = simple_follows l c h (g.path (g.named (m.any n r k b))) (items.Root n b) true refl
holding_follows l c h sign.OpenParen b = paren_follows l c h b
holding_follows l c h _ b = tt

-- simple contents of what is no method,
datum_follows : (l : Limits) (c : Context) (h : p.DataHole) (d : g.Simple) (i : Item) (k : Bool) → ends_with_path d ≡ k →
    Follows l c (held.simple_datum i k (data_frames l h) c) (m.simply (saying i) (v.datum_done h (g.simple d)))
datum_follows l c (p.assigned h w a) d i k is =
    (refl, refl, λ d. refl, ap (λ z. stand (at.Behind (end.Member (s.slot_item w (form.Assignable w.setter)) z)) (lists l h (set_scope l w (p.scope_of l h)))) (sym is))
datum_follows l c (p.parental (p.in_world ms) w y e) d i k is =
    (refl, refl, λ d. refl, ap (λ z. stand (at.Behind (end.Member (s.slot_item w form.Parent) z)) (lists l (p.in_world ms) (not_plain (name_scope l w (p.scope_of l (p.in_world ms)))))) (sym is))
datum_follows l c (p.parental (p.in_bars h q u ss) w y e) d i k is =
    (refl, refl, λ d. refl, ap (λ z. stand (at.Behind (end.Member (s.slot_item w form.Parent) z)) (lists l (p.in_bars h q u ss) (not_plain (name_scope l w (p.scope_of l (p.in_bars h q u ss)))))) (sym is))
datum_follows l c (p.parental (p.in_object h q u ss) w y e) d i k is =
    (refl, refl, λ d. refl, ap (λ z. stand (at.Behind (end.Member (s.slot_item w form.Parent) z)) (lists l (p.in_object h q u ss) (not_plain (name_scope l w (p.scope_of l (p.in_object h q u ss)))))) (sym is))

pub data_wanted_follows : (l : Limits) (c : Context) (h : p.DataHole) (x : Symbol) (b : Spot) → Follows l c (held.data_wanted_turn (data_frames l h) c x b) (v.data_wanted_move h x b)
data_wanted_follows l c h (sign.Integer z) b = datum_follows l c h (g.integer z b) (items.Integer z) false refl
data_wanted_follows l c h (sign.Text i j) b = datum_follows l c h (g.string (record { start = i; end = j; spot = b })) (items.Text i j) false refl
data_wanted_follows l c h (sign.Name n r k) b = datum_follows l c h (g.path (g.named (m.any n r k b))) (items.Root n b) true refl
data_wanted_follows l c h sign.OpenParen b = (refl, refl, λ d. refl, refl)
data_wanted_follows l c h _ b = tt

-- and an object as contents
marked_follows : (l : Limits) (c : Context) (h : p.Lists) (u : Scope) (e : Event) (y : g.Member) → member_scope l y (p.scope_of l h) ≡ not_plain u →
    Follows l c (held.marked_at e (at.Behind (end.Member (member_item y) (member_goes_on y))) (lists l h u) c) (m.simply e (m.member_done h y))
marked_follows l c (p.in_world ms) u e y is = (refl, refl, λ d. refl, ap (λ z. stand (at.Behind (end.Member (member_item y) (member_goes_on y))) (lists l (p.in_world ms) z)) (sym is))
marked_follows l c (p.in_bars h q d ss) u e y is =
    (refl, refl, λ d. refl, ap (λ z. stand (at.Behind (end.Member (member_item y) (member_goes_on y))) (lists l (p.in_bars h q d ss) z)) (sym is))
marked_follows l c (p.in_object h q d ss) u e y is =
    (refl, refl, λ d. refl, ap (λ z. stand (at.Behind (end.Member (member_item y) (member_goes_on y))) (lists l (p.in_object h q d ss) z)) (sym is))

object_datum_follows : (l : Limits) (c : Context) (h : p.DataHole) (e : Event) (o : g.Object) →
    Follows l c (held.object_datum e (data_frames l h) c) (m.simply e (v.datum_done h (g.object o)))
object_datum_follows l c (p.assigned h w a) e o = marked_follows l c h (set_scope l w (p.scope_of l h)) e (g.assignable w a (g.object o)) refl
object_datum_follows l c (p.parental h w y a) e o = marked_follows l c h (name_scope l w (p.scope_of l h)) e (g.parent w y a (g.object o)) refl

-- Behind a parenthesis, and behind the bars.
begins_behind : (l : Limits) (c : Context) (k : Context → Context) (y : Option Turn) (z : Option m.Move) → Follows l (k c) y z → Follows l c y (v.behind_pre k z)
begins_behind l c k None None is = tt
begins_behind l c k None (Some z) is = is
begins_behind l c k (Some y) None is = is
begins_behind l c k (Some y) (Some z) is = is

opened_code : (l : Limits) (c : Context) (h : p.Contents) (q : Spot) (x : Symbol) (b : Spot) →
    Follows l c (begun (f.Expression (expression.Statement false) ∷ f.Body body.Method ∷ contents l h) (turns.entered c) x b) (v.code_begins h q x b)
opened_code l c h q x b =
    begins_behind l c m.enter (begun (f.Expression (expression.Statement false) ∷ f.Body body.Method ∷ contents l h) (turns.entered c) x b) (m.begin_move (p.alone (p.statement (p.in_method h q) g.none)) x b)
    (begin_follows l (m.enter c) (p.alone (p.statement (p.in_method h q) g.none)) x b)

empty_follows : (l : Limits) (c : Context) (h : p.Contents) (q b : Spot) → Follows l c (held.object_constant (held.empty_end q) (contents l h) c) (v.empty_object_move h q b)
empty_follows l c (p.undecided h w e) q b = marked_follows l c h (name_scope l w (p.scope_of l h)) (v.empty_object_end q) (g.constant w e (g.object (g.empty_object q b))) refl
empty_follows l c (p.coded h x e) q b = tt

pub opened_follows : (l : Limits) (c : Context) (h : p.Contents) (q : Spot) (x : Symbol) (b : Spot) →
    Follows l c (held.opened_turn q (p.named_of l h).inner (contents l h) c x b) (v.opened_move h q x b)
opened_follows l c h q sign.Bar b = (refl, refl, λ d. refl, refl)
opened_follows l c h q sign.CloseParen b = empty_follows l c h q b
opened_follows l c h q x b = opened_code l c h q x b

pub data_opened_follows : (l : Limits) (c : Context) (h : p.DataHole) (q : Spot) (x : Symbol) (b : Spot) →
    Follows l c (held.data_opened_turn q (data_frames l h) c x b) (v.data_opened_move h q x b)
data_opened_follows l c h q sign.Bar b = (refl, refl, λ d. refl, refl)
data_opened_follows l c h q sign.CloseParen b = object_datum_follows l c h (v.empty_object_end q) (g.empty_object q b)
data_opened_follows l c h q _ b = tt

-- the first sign of code behind bars, by what surrounds it
told_is : (l : Limits) (h : p.Contents) (sl : g.Slots) (c : Context) (x : Symbol) (b : Spot) →
    held.code_turn (slots_scope l sl (p.named_of l h).inner) (contents l h) c x b ≡ begun (f.Expression (expression.Statement false) ∷ f.Body body.Method ∷ contents l h) (v.barred_pre l h sl c) x b
told_is l (p.undecided h w e) sl c x b = refl
told_is l (p.coded h (g.unary_head w) e) sl c x b = refl
told_is l (p.coded h (g.operator_with o a) e) sl c x b = refl
told_is l (p.coded h (g.operator o) e) sl c x b = refl
told_is l (p.coded h (g.keyword_with n) e) sl c x b = refl
told_is l (p.coded h (g.keyword n) e) sl c x b = refl

shut_code : (l : Limits) (c : Context) (h : p.Contents) (q d : Spot) (sl : g.Slots) (d2 : Spot) (x : Symbol) (b : Spot) →
    Follows l c (held.code_turn (slots_scope l sl (p.named_of l h).inner) (contents l h) c x b)
    (v.behind_pre (v.barred_pre l h sl) (m.begin_move (p.alone (p.statement (p.in_slotted h q d sl d2) g.none)) x b))
shut_code l c h q d sl d2 x b =
    begins_behind l c (v.barred_pre l h sl) (held.code_turn (slots_scope l sl (p.named_of l h).inner) (contents l h) c x b)
    (m.begin_move (p.alone (p.statement (p.in_slotted h q d sl d2) g.none)) x b)
    (subst (λ z. Follows l (v.barred_pre l h sl c) z (m.begin_move (p.alone (p.statement (p.in_slotted h q d sl d2) g.none)) x b)) (sym (told_is l h sl c x b))
    (begin_follows l (v.barred_pre l h sl c) (p.alone (p.statement (p.in_slotted h q d sl d2) g.none)) x b))

object_follows : (l : Limits) (c : Context) (h : p.Contents) (q d : Spot) (sl : g.Slots) (d2 b : Spot) →
    Follows l c (held.object_constant (held.object_end q (slots_scope l sl (p.named_of l h).inner)) (contents l h) c) (v.object_move l h q d sl d2 b)
object_follows l c (p.undecided h w e) q d sl d2 b =
    marked_follows l c h (name_scope l w (p.scope_of l h)) (v.object_end q (slots_scope l sl (scope either))) (g.constant w e (g.object (g.slotted_object q d sl d2 b))) refl
object_follows l c (p.coded h x e) q d sl d2 b = tt

pub shut_follows : (l : Limits) (c : Context) (h : p.Contents) (q d : Spot) (sl : g.Slots) (d2 : Spot) (x : Symbol) (b : Spot) →
    Follows l c (held.shut_turn q (slots_scope l sl (p.named_of l h).inner) (contents l h) c x b) (v.shut_move l h q d sl d2 x b)
shut_follows l c h q d sl d2 sign.CloseParen b = object_follows l c h q d sl d2 b
shut_follows l c h q d sl d2 x b = shut_code l c h q d sl d2 x b

pub data_shut_follows : (l : Limits) (c : Context) (h : p.DataHole) (q d : Spot) (sl : g.Slots) (d2 : Spot) (x : Symbol) (b : Spot) →
    Follows l c (held.data_shut_turn q (slots_scope l sl (scope holder)) (data_frames l h) c x b) (v.data_shut_move l h q d sl d2 x b)
data_shut_follows l c h q d sl d2 sign.CloseParen b = object_datum_follows l c h (v.object_end q (slots_scope l sl (scope holder))) (g.slotted_object q d sl d2 b)
data_shut_follows l c h q d sl d2 _ b = tt
