-- Code and slots fit with further names.
use Rattle.std.proofs.Common.{◌≡◌, ℕ, ◌≤◌, ap, sym, subst, refl, ◌∙◌, List, [], ◌∷◌, ◌++◌, length}
use Rattle.std.specs.Prelude.{Option, Some, None, codes}
use Rattle.self_terms.specs.declared.nodes.Node.{Node}
use Rattle.self_terms.specs.declared.nodes.Node.TheVariants as nodes
use Rattle.self_terms.specs.declared.bodies.Body.{Body}
use Rattle.source_model.specs.Objects.{Object}
use Rattle.source_model.specs.declared.objects.Slot.{Slot}
use Rattle.source_model.specs.declared.objects.Content.{Content}
use Rattle.source_model.specs.declared.objects.Content.TheVariants.{Constant, Assignable, Assignment, Parent, Method}
use Rattle.source_model.specs.declared.objects.Thing.{Thing}
use Rattle.source_model.specs.declared.objects.Thing.TheVariants.{Plain, Vector, Text}
use Rattle.source_model.specs.Canon.{Each}
use Rattle.source_model.specs.Soundness.{body_in}
use Rattle.source_model.specs.Formed.{Says, IsSaid, ContentFits, SlotFits, Follows, AreTied, ThingFits}
use Rattle.plain_names.specs.Growing.{AreNamed}
use Rattle.plain_names.proofs.Numbers.{named_on, has_text_on, takes_on}

pub each_so : {A : Type 0} (P Q : A → Type 0) → ((x : A) → P x → Q x) → (xs : List A) → Each P xs → Each Q xs
each_so P Q f [] e = tt
each_so P Q f (x ∷ xs) e = (f x e.0, each_so P Q f xs e.1)

module _ (names more : List (List ℕ)) where
  node_on : (things : ℕ) (node : Node) → Says names things node → Says (names ++ more) things node
  node_on things (nodes.Int i) h = tt
  node_on things (nodes.Str o) h = h
  node_on things nodes.SelfRef h = tt
  node_on things nodes.Nil h = tt
  node_on things (nodes.Read up slot) h = tt
  node_on things (nodes.Store up slot) h = tt
  node_on things (nodes.Send sel) h = takes_on names more sel.name.0 sel.args h
  node_on things (nodes.SelfSend sel) h = takes_on names more sel.name.0 sel.args h
  node_on things (nodes.Resend sel) h = takes_on names more sel.name.0 sel.args h
  node_on things (nodes.Directed parent sel) h = (has_text_on names more parent.0 h.0, takes_on names more sel.name.0 sel.args h.1)
  node_on things nodes.Drop h = tt
  node_on things nodes.Restart h = tt
  node_on things nodes.Return h = tt
  node_on things nodes.NonLocal h = tt
  node_on things nodes.End h = tt
  node_on things (nodes.BlockLit b) h = tt
  node_on things (nodes.Prim name args implied handler) h = has_text_on names more name.0 h

  pub said_on : (things : ℕ) (b : Body) → IsSaid names things b → IsSaid (names ++ more) things b
  said_on things b h = record { said = each_so (Says names things) (Says (names ++ more) things) (node_on things) b.nodes h.said; placed = h.placed; initials = h.initials }

  content_on : (bodies : List Body) (n : ℕ) (c : Content) → ContentFits names bodies n c → ContentFits (names ++ more) bodies n c
  content_on bodies n (Constant v) h = tt
  content_on bodies n (Assignable v) h = tt
  content_on bodies n Assignment h = takes_on names more n 1 h
  content_on bodies n (Parent o) h = tt
  content_on bodies n (Method b) h = (h.0, takes_on names more n (length (body_in bodies b.0).arguments) h.1, h.2)

  follows_on : (front : Option Slot) (x : Slot) → ((y : Slot) → front ≡ Some y → y.name ≤ length names) → x.name ≤ length names → Follows names front x → Follows (names ++ more) front x
  follows_on None x f le h = h
  follows_on (Some y) x f le h = λ is. ((h is).0, named_on names more x.name le ∙ (h is).1 ∙ ap (λ (t : List ℕ). t ++ codes ":") (sym (named_on names more y.name (f y refl))))

  some_slot : (x y : Slot) → ◌≡◌ {A = Option Slot} (Some x) (Some y) → x ≡ y
  some_slot x y e = cc

  none_slot : (y : Slot) → ◌≡◌ {A = Option Slot} None (Some y) → ⊥
  none_slot y e = cc

  tied_on : (front : Option Slot) (xs : Object) → ((y : Slot) → front ≡ Some y → y.name ≤ length names) → Each (λ (x : Slot). x.name ≤ length names) xs → AreTied names front xs → AreTied (names ++ more) front xs
  tied_on front [] f are h = tt
  tied_on front (x ∷ xs) f are h =
      (follows_on front x f are.0 h.0, tied_on (Some x) xs (λ y e. subst (λ (s : Slot). s.name ≤ length names) (some_slot x y e) are.0) are.1 h.1)

  thing_on : (bodies : List Body) (x : Thing) → AreNamed names x → ThingFits names bodies x → ThingFits (names ++ more) bodies x
  thing_on bodies (Plain slots) are h = (
    each_so (SlotFits names bodies) (SlotFits (names ++ more) bodies) (λ (x : Slot) fits. content_on bodies x.name x.content fits) slots h.0,
    tied_on None slots (λ y e. absurd (none_slot y e)) are h.1,
    h.2,
  )
  thing_on bodies (Vector items) are h = tt
  thing_on bodies (Text bytes) are h = tt

  pub slots_on : (bodies : List Body) (things : List Thing) → Each (AreNamed names) things → Each (ThingFits names bodies) things → Each (ThingFits (names ++ more) bodies) things
  slots_on bodies [] are h = tt
  slots_on bodies (x ∷ xs) are h = (thing_on bodies x are.0 h.0, slots_on bodies xs are.1 h.1)
