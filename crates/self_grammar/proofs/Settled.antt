-- The scope behind each part of a list of slots, as a function of the scope before it; and what follows a part gets it.
use Rattle.std.specs.Prelude.{◌≡◌, [], ◌∷◌, refl}
use Rattle.std.proofs.Common.{ap, sym, ◌∙◌}
use Rattle.self_grammar.specs.declared.signs.Symbol.TheVariants as sign
use Rattle.self_grammar.specs.declared.signs.Role.TheVariants.{Equals}
use Rattle.self_grammar.specs.Grammar as g
use Rattle.self_grammar.specs.Counts.{Limits, Writer, write, quiet, placing}
use Rattle.self_grammar.specs.Scopes.{Scope, scope, either, activation, named, with_argument, with_local, not_plain, too_many_arguments}
use Rattle.self_grammar.specs.Spelling as s

abbrev pub name_scope : Limits → g.Label → Scope → Scope
name_scope l w t = named (w.name ∷ []) (with_local l w.spot t)

abbrev pub argument_scope : g.Label → Scope → Scope
argument_scope w t = with_argument (w.name ∷ []) t

abbrev pub set_scope : Limits → g.Label → Scope → Scope
set_scope l w t = named (w.setter ∷ []) (name_scope l w t)

abbrev pub keyword_scope : Limits → g.KeywordName → Scope → Scope
keyword_scope l n t = with_local l (s.first_word n) t

abbrev pub head_inner : g.KeywordHead → Scope
head_inner (g.head_first w a) = argument_scope a (scope activation)
head_inner (g.head_next n q a) = argument_scope a (head_inner n)

abbrev pub operator_scope : Limits → g.AnyOperator → Scope → Scope
operator_scope l o t = named (o.word.name ∷ []) (with_local l o.word.spot t)

-- what is known behind the name of a method slot
abbrev pub head_named : Limits → g.Head → Scope → s.Named
head_named l (g.unary_head w) t = record { around = name_scope l w t; inner = scope either; wanted = 0; spot = w.spot; broken = [] }
head_named l (g.operator_with o a) t = record { around = operator_scope l o t; inner = argument_scope a (scope activation); wanted = 1; spot = o.word.spot; broken = [] }
head_named l (g.operator o) t = record { around = operator_scope l o t; inner = scope activation; wanted = 1; spot = o.word.spot; broken = [] }
head_named l (g.keyword_with n) t = s.keyword_named (s.head_name n) (keyword_scope l (s.head_name n) t) (head_inner n)
head_named l (g.keyword n) t = s.keyword_named n (keyword_scope l n t) (scope activation)

abbrev pub member_scope : Limits → g.Member → Scope → Scope
member_scope l (g.constant w e d) t = s.holding d (name_scope l w t)
member_scope l (g.assignable w a d) t = s.holding d (set_scope l w t)
member_scope l (g.bare w) t = set_scope l w t
member_scope l (g.parent w x e d) t = not_plain (name_scope l w t)
member_scope l (g.coded (g.method h e m)) t = not_plain (head_named l h t).around

abbrev pub slot_scope : Limits → g.Slot → Scope → Scope
slot_scope l (g.member m) t = member_scope l m t
slot_scope l (g.argument w) t = argument_scope w t

abbrev pub before_scope : Limits → g.SlotsBefore → Scope → Scope
before_scope l g.no_slots t = t
before_scope l (g.more_slots ss x p) t = slot_scope l x (before_scope l ss t)

abbrev pub slots_scope : Limits → g.Slots → Scope → Scope
slots_scope l (g.slots_ended ss) t = before_scope l ss t
slots_scope l (g.slots_last ss x) t = slot_scope l x (before_scope l ss t)

abbrev pub members_scope : Limits → g.MembersBefore → Scope → Scope
members_scope l g.no_members t = t
members_scope l (g.more_members ms m p) t = member_scope l m (members_scope l ms t)

pub keyword_settles : (l : Limits) (n : g.KeywordName) (k : s.Listing) (t : Scope) → s.keyword_name l n k t ≡ s.keyword_name l n (λ u. k (keyword_scope l n t)) t
keyword_settles l (g.keyword_first w) k t = refl
keyword_settles l (g.keyword_next n q) k t =
    keyword_settles l n (λ u. s.part l q (record quiet { broken = too_many_arguments l (s.count n) }) (k u)) t

pub keyword_head_settles : (l : Limits) (n : g.KeywordHead) (k : Scope → s.Listing) (t : Scope) →
    s.keyword_head l n k t ≡ s.keyword_head l n (λ u i. k (keyword_scope l (s.head_name n) t) (head_inner n)) t
keyword_head_settles l (g.head_first w a) k t = refl
keyword_head_settles l (g.head_next n q a) k t =
    keyword_head_settles l n (λ u i. s.part l q (record quiet { broken = too_many_arguments l (s.count (s.head_name n)) }) (s.head_argument l a (k u) i)) t
    ∙ sym (keyword_head_settles l n (λ u i. s.part l q (record quiet { broken = too_many_arguments l (s.count (s.head_name n)) })
    (s.head_argument l a (λ j. k (keyword_scope l (s.head_name n) t) (argument_scope a (head_inner n))) i)) t)

pub head_settles : (l : Limits) (h : g.Head) (k : s.Named → Writer) (t : Scope) → s.head l h k t ≡ s.head l h (λ n. k (head_named l h t)) t
head_settles l (g.unary_head w) k t = refl
head_settles l (g.operator_with o a) k t = refl
head_settles l (g.operator o) k t = refl
head_settles l (g.keyword_with n) k t = keyword_head_settles l n (λ u i. k (s.keyword_named (s.head_name n) u i)) t
head_settles l (g.keyword n) k t = keyword_settles l n (λ u. k (s.keyword_named n u (scope activation))) t

pub member_settles : (l : Limits) (m : g.Member) (k : s.Listing) (t : Scope) → s.member l m k t ≡ s.member l m (λ u. k (member_scope l m t)) t
member_settles l (g.constant w e d) k t = refl
member_settles l (g.assignable w a d) k t = refl
member_settles l (g.bare w) k t = refl
member_settles l (g.parent w x e d) k t = refl
member_settles l (g.coded (g.method h e m)) k t =
    head_settles l h (λ n. s.mark l Equals e (record quiet { broken = n.broken }) (s.method l n m (k (not_plain n.around)))) t
    ∙ sym (head_settles l h (λ n. s.mark l Equals e (record quiet { broken = n.broken }) (s.method l n m (k (not_plain (head_named l h t).around)))) t)

pub slot_settles : (l : Limits) (x : g.Slot) (k : s.Listing) (t : Scope) → s.slot l x k t ≡ s.slot l x (λ u. k (slot_scope l x t)) t
slot_settles l (g.member m) k t = member_settles l m k t
slot_settles l (g.argument w) k t = refl

pub before_settles : (l : Limits) (ss : g.SlotsBefore) (k : s.Listing) (t : Scope) → s.slots_before l ss k t ≡ s.slots_before l ss (λ u. k (before_scope l ss t)) t
before_settles l g.no_slots k t = refl
before_settles l (g.more_slots ss x p) k t =
    before_settles l ss (s.slot l x (λ u. placing (s.slot_items x) (write l sign.Period p quiet (k u)))) t
    ∙ ap (λ w. s.slots_before l ss (λ u. w) t) (slot_settles l x (λ u. placing (s.slot_items x) (write l sign.Period p quiet (k u))) (before_scope l ss t))
    ∙ sym (before_settles l ss (s.slot l x (λ u. placing (s.slot_items x) (write l sign.Period p quiet (k (slot_scope l x (before_scope l ss t)))))) t)

pub slots_settle : (l : Limits) (ss : g.Slots) (k : s.Listing) (t : Scope) → s.slots l ss k t ≡ s.slots l ss (λ u. k (slots_scope l ss t)) t
slots_settle l (g.slots_ended ss) k t = before_settles l ss k t
slots_settle l (g.slots_last ss x) k t =
    before_settles l ss (s.slot l x (λ u. placing (s.slot_items x) (k u))) t
    ∙ ap (λ w. s.slots_before l ss (λ u. w) t) (slot_settles l x (λ u. placing (s.slot_items x) (k u)) (before_scope l ss t))
    ∙ sym (before_settles l ss (s.slot l x (λ u. placing (s.slot_items x) (k (slot_scope l x (before_scope l ss t))))) t)

pub members_settles : (l : Limits) (ms : g.MembersBefore) (k : s.Listing) (t : Scope) → s.members_before l ms k t ≡ s.members_before l ms (λ u. k (members_scope l ms t)) t
members_settles l g.no_members k t = refl
members_settles l (g.more_members ms m p) k t =
    members_settles l ms (s.member l m (λ u. placing (s.member_items m) (write l sign.Period p quiet (k u)))) t
    ∙ ap (λ w. s.members_before l ms (λ u. w) t) (member_settles l m (λ u. placing (s.member_items m) (write l sign.Period p quiet (k u))) (members_scope l ms t))
    ∙ sym (members_settles l ms (s.member l m (λ u. placing (s.member_items m) (write l sign.Period p quiet (k (member_scope l m (members_scope l ms t)))))) t)

-- the same for the slots of a block
abbrev pub local_scope : Limits → g.Local → Scope → Scope
local_scope l (g.local_argument w) t = argument_scope w t
local_scope l (g.local_bare w) t = set_scope l w t
local_scope l (g.local_assignable w a d) t = set_scope l w t
local_scope l (g.local_constant w e d) t = name_scope l w t

abbrev pub locals_scope : Limits → g.LocalsBefore → Scope → Scope
locals_scope l g.no_locals t = t
locals_scope l (g.more_locals ws w p) t = local_scope l w (locals_scope l ws t)

pub local_settles : (l : Limits) (w : g.Local) (k : s.Listing) (t : Scope) → s.local l w k t ≡ s.local l w (λ u. k (local_scope l w t)) t
local_settles l (g.local_argument w) k t = refl
local_settles l (g.local_bare w) k t = refl
local_settles l (g.local_assignable w a d) k t = refl
local_settles l (g.local_constant w e d) k t = refl

pub locals_settle : (l : Limits) (ws : g.LocalsBefore) (k : s.Listing) (t : Scope) → s.locals_before l ws k t ≡ s.locals_before l ws (λ u. k (locals_scope l ws t)) t
locals_settle l g.no_locals k t = refl
locals_settle l (g.more_locals ws w p) k t =
    locals_settle l ws (s.local l w (λ u. placing (s.local_items w) (write l sign.Period p quiet (k u)))) t
    ∙ ap (λ y. s.locals_before l ws (λ u. y) t) (local_settles l w (λ u. placing (s.local_items w) (write l sign.Period p quiet (k u))) (locals_scope l ws t))
    ∙ sym (locals_settle l ws (s.local l w (λ u. placing (s.local_items w) (write l sign.Period p quiet (k (local_scope l w (locals_scope l ws t)))))) t)
