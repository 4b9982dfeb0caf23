-- More bodies behind those that are there: what is said of the old ones stays, and those of a text are what the text says.
use Rattle.std.proofs.Common.{◌≡◌, ℕ, zero, suc, ◌+◌, ◌-◌, ◌<◌, ◌≤◌, ap, sym, subst, refl, ◌∙◌, arith, Bool, true, false, List, [], ◌∷◌, ◌++◌, length, map, get_or}
use Rattle.std.specs.Prelude.{nat_le, slice_get, Option, Some, None, unwrap_or, option_map, option_and_then}
use Rattle.std.proofs.lemmas.Bool.{leb-true, leb-false}
use Rattle.std.proofs.lemmas.List.{length-append, length-map}
use Rattle.self_terms.specs.declared.nodes.Node.{Node}
use Rattle.self_terms.specs.declared.nodes.Node.TheVariants as nodes
use Rattle.self_terms.specs.declared.bodies.Body.{Body}
use Rattle.self_terms.specs.declared.bodies.Local.{Local}
use Rattle.self_terms.specs.Depths.{taken, left_by, grown, depth_from, depth, is_inner}
use Rattle.source_model.specs.Objects.{Content, Constant, Assignable, Assignment, Parent, Method}
use Rattle.source_model.specs.State.{Activation, Activity, Running, Answered, Failed, State}
use Rattle.source_model.specs.Step.{node_at}
use Rattle.source_model.specs.Edits.{node_in}
use Rattle.source_model.specs.Canon.{Each}
use Rattle.source_model.specs.Soundness.{body_in, HasBody, room, around, HasLocal, Names, HasOuter, IsFit, HasMaker, IsLive, Waits, AreCallers, IsActivity}
use Rattle.source_model.specs.Formed.{Takes, Says, IsGiven, IsSaid, ContentFits}

abbrev pub no_body : Body
no_body = record { name = None; outer = None; arguments = []; locals = []; nodes = []; places = [] }

slice_front : {A : Type 0} (xs ys : List A) (i : ℕ) → i < length xs → slice_get (xs ++ ys) i ≡ slice_get xs i
slice_front [] ys i lt = absurd (omega (arith, lt))
slice_front (x ∷ xs) ys zero lt = refl
slice_front (x ∷ xs) ys (suc i) lt = slice_front xs ys i (omega (arith, lt))

slice_behind : {A : Type 0} (xs ys : List A) (i j : ℕ) → i ≡ length xs + j → slice_get (xs ++ ys) i ≡ slice_get ys j
slice_behind [] ys i j e = let same : i ≡ j = omega (arith, e) in ap (slice_get ys) same
slice_behind (x ∷ xs) ys zero j e = absurd (omega (arith, e))
slice_behind (x ∷ xs) ys (suc i) j e = slice_behind xs ys i j (omega (arith, e))

module _ (bodies new : List Body) where
  abbrev pub all : List Body
  all = bodies ++ new

  -- The old ones.

  pub old_body : (n : ℕ) → HasBody bodies n → body_in all n ≡ body_in bodies n
  old_body n has = ap (λ (m : Option Body). unwrap_or m no_body) (slice_front bodies new (n - 1) (omega (arith, has.0, has.1)))

  pub old_has : (n : ℕ) → HasBody bodies n → HasBody all n
  old_has n has = (has.0, omega (arith, has.1, length-append bodies new))

  pub old_outer : (m : Option ℕ) → HasOuter bodies m → HasOuter all m
  old_outer None e = tt
  old_outer (Some k) e = old_has k e

  module _ (fit : (n : ℕ) → HasBody bodies n → IsFit bodies n) where
    outer_there : (m : Option ℕ) → HasOuter bodies m → HasOuter bodies (option_and_then (λ k. (body_in bodies k).outer) m)
    outer_there None e = tt
    outer_there (Some k) e = (fit k e).inside

    around_there : (up : ℕ) (m : Option ℕ) → HasOuter bodies m → HasOuter bodies (around bodies up m)
    around_there zero m e = e
    around_there (suc up) m e = around_there up (option_and_then (λ k. (body_in bodies k).outer) m) (outer_there m e)

    outer_same : (m : Option ℕ) → HasOuter bodies m → option_and_then (λ k. (body_in all k).outer) m ≡ option_and_then (λ k. (body_in bodies k).outer) m
    outer_same None e = refl
    outer_same (Some k) e = ap (λ (b : Body). b.outer) (old_body k e)

    around_same : (up : ℕ) (m : Option ℕ) → HasOuter bodies m → around all up m ≡ around bodies up m
    around_same zero m e = refl
    around_same (suc up) m e = ap (around all up) (outer_same m e) ∙ around_same up (option_and_then (λ k. (body_in bodies k).outer) m) (outer_there m e)

    local_same : (slot : ℕ) (m : Option ℕ) → HasOuter bodies m → HasLocal bodies slot m → HasLocal all slot m
    local_same slot None e has = has
    local_same slot (Some k) e has = subst (λ (b : Body). slot < room b) (sym (old_body k e)) has

    local_there : (slot up n : ℕ) → HasBody bodies n → HasLocal bodies slot (around bodies up (Some n)) → HasLocal all slot (around all up (Some n))
    local_there slot up n e has = subst (HasLocal all slot) (sym (around_same up (Some n) e)) (local_same slot (around bodies up (Some n)) (around_there up (Some n) e) has)

    names_there : (n : ℕ) → HasBody bodies n → (node : Node) → Names bodies n node → Names all n node
    names_there n has (nodes.Int i) e = tt
    names_there n has (nodes.Str o) e = tt
    names_there n has (nodes.BlockLit b) e = (old_has b.0 e.0, ap (λ (x : Body). x.outer) (old_body b.0 e.0) ∙ e.1)
    names_there n has nodes.SelfRef e = tt
    names_there n has nodes.Nil e = tt
    names_there n has (nodes.Read up slot) e = local_there slot up n has e
    names_there n has (nodes.Store up slot) e = local_there slot up n has e
    names_there n has (nodes.Send sel) e = tt
    names_there n has (nodes.SelfSend sel) e = tt
    names_there n has (nodes.Resend sel) e = tt
    names_there n has (nodes.Directed parent sel) e = tt
    names_there n has (nodes.Prim name args implied handler) e = tt
    names_there n has nodes.Drop e = tt
    names_there n has nodes.Restart e = tt
    names_there n has nodes.Return e = tt
    names_there n has nodes.NonLocal e = tt
    names_there n has nodes.End e = tt

    pub old_fit : (n : ℕ) → HasBody bodies n → IsFit all n
    old_fit n has =
        let f : IsFit bodies n = fit n has in
        let same : body_in bodies n ≡ body_in all n = sym (old_body n has) in
        record {
          inside = subst (λ (b : Body). HasOuter all b.outer) same (old_outer (body_in bodies n).outer f.inside);
          some = subst (λ (b : Body). 0 < length b.nodes) same f.some;
          there = subst (λ (b : Body). (k : ℕ) → k < length b.nodes → taken (node_at b k) ≤ depth b.nodes k) same f.there;
          ends = subst (λ (b : Body). (k : ℕ) → k < length b.nodes → is_inner (node_at b k) ≡ true → k + 1 < length b.nodes) same f.ends;
          names = subst (λ (b : Body). (k : ℕ) → k < length b.nodes → Names all n (node_at b k)) same (λ k lt. names_there n has (node_at (body_in bodies n) k) (f.names k lt));
        }

  -- Activations of the old ones.

  module _ (home : ℕ → ℕ) where
    pub old_live : (older : List Activation) (a : Activation) → IsLive bodies home older a → IsLive all home older a
    old_live older a e =
        let same : body_in bodies a.body ≡ body_in all a.body = sym (old_body a.body e.given) in
        record {
          given = old_has a.body e.given;
          known = e.known;
          locals = subst (λ (b : Body). length a.locals ≡ room b) same e.locals;
          next = subst (λ (b : Body). a.next < length b.nodes) same e.next;
          maker = subst (λ (b : Body). HasMaker home older a.maker b.outer) same e.maker;
        }

    old_waits : (a : Activation) → HasBody bodies a.body → Waits bodies a → Waits all a
    old_waits a given e =
        let same : body_in bodies a.body ≡ body_in all a.body = sym (old_body a.body given) in
        record {
          asked = subst (λ (b : Body). left_by (node_at b a.next) ≡ 1) same e.asked;
          pending = subst (λ (b : Body). length a.pending + taken (node_at b a.next) ≡ depth b.nodes a.next) same e.pending;
        }

    old_callers : (callers : List Activation) → AreCallers bodies home callers → AreCallers all home callers
    old_callers [] e = tt
    old_callers (a ∷ older) e = (old_live older a e.0, old_waits a e.0.given e.1, old_callers older e.2)

    pub old_activity : (x : Activity) → IsActivity bodies home x → IsActivity all home x
    old_activity (Running []) e = e
    old_activity (Running (a ∷ older)) e =
        (old_live older a e.0, subst (λ (b : Body). length a.pending ≡ depth b.nodes a.next) (sym (old_body a.body e.0.given)) e.1, old_callers older e.2)
    old_activity (Answered v) e = tt
    old_activity (Failed x p) e = tt

  pub old_content : (names : List (List ℕ)) (n : ℕ) (c : Content) → ContentFits names bodies n c → ContentFits names all n c
  old_content names n (Constant v) e = tt
  old_content names n (Assignable v) e = tt
  old_content names n Assignment e = e
  old_content names n (Parent o) e = tt
  old_content names n (Method b) e =
      let same : body_in bodies b.0 ≡ body_in all b.0 = sym (old_body b.0 e.0) in
      (old_has b.0 e.0, subst (λ (x : Body). Takes names n (length x.arguments)) same e.1, subst (λ (x : Body). x.outer ≡ None) same e.2)

-- The bodies of a text.

-- a node of a text takes and leaves what it takes and leaves in the state
module _ (s : State) where
  taken_same : (node : Node) → taken (node_in s node) ≡ taken node
  taken_same (nodes.Int i) = refl
  taken_same (nodes.Str o) = refl
  taken_same (nodes.BlockLit b) = refl
  taken_same nodes.SelfRef = refl
  taken_same nodes.Nil = refl
  taken_same (nodes.Read up slot) = refl
  taken_same (nodes.Store up slot) = refl
  taken_same (nodes.Send sel) = refl
  taken_same (nodes.SelfSend sel) = refl
  taken_same (nodes.Resend sel) = refl
  taken_same (nodes.Directed parent sel) = refl
  taken_same (nodes.Prim name args implied handler) = refl
  taken_same nodes.Drop = refl
  taken_same nodes.Restart = refl
  taken_same nodes.Return = refl
  taken_same nodes.NonLocal = refl
  taken_same nodes.End = refl

  left_same : (node : Node) → left_by (node_in s node) ≡ left_by node
  left_same (nodes.Int i) = refl
  left_same (nodes.Str o) = refl
  left_same (nodes.BlockLit b) = refl
  left_same nodes.SelfRef = refl
  left_same nodes.Nil = refl
  left_same (nodes.Read up slot) = refl
  left_same (nodes.Store up slot) = refl
  left_same (nodes.Send sel) = refl
  left_same (nodes.SelfSend sel) = refl
  left_same (nodes.Resend sel) = refl
  left_same (nodes.Directed parent sel) = refl
  left_same (nodes.Prim name args implied handler) = refl
  left_same nodes.Drop = refl
  left_same nodes.Restart = refl
  left_same nodes.Return = refl
  left_same nodes.NonLocal = refl
  left_same nodes.End = refl

  inner_same : (node : Node) → is_inner (node_in s node) ≡ is_inner node
  inner_same (nodes.Int i) = refl
  inner_same (nodes.Str o) = refl
  inner_same (nodes.BlockLit b) = refl
  inner_same nodes.SelfRef = refl
  inner_same nodes.Nil = refl
  inner_same (nodes.Read up slot) = refl
  inner_same (nodes.Store up slot) = refl
  inner_same (nodes.Send sel) = refl
  inner_same (nodes.SelfSend sel) = refl
  inner_same (nodes.Resend sel) = refl
  inner_same (nodes.Directed parent sel) = refl
  inner_same (nodes.Prim name args implied handler) = refl
  inner_same nodes.Drop = refl
  inner_same nodes.Restart = refl
  inner_same nodes.Return = refl
  inner_same nodes.NonLocal = refl
  inner_same nodes.End = refl

  depth_same_from : (d : ℕ) (ns : List Node) (k : ℕ) → depth_from d (map (node_in s) ns) k ≡ depth_from d ns k
  depth_same_from d [] k = refl
  depth_same_from d (n ∷ ns) zero = refl
  depth_same_from d (n ∷ ns) (suc k) =
      ap (λ (e : ℕ). depth_from e (map (node_in s) ns) k) (λ i. d - taken_same n i + left_same n i) ∙ depth_same_from (grown n d) ns k

  depth_same : (ns : List Node) (k : ℕ) → depth (map (node_in s) ns) k ≡ depth ns k
  unfolding depth
  depth_same ns k = depth_same_from 0 ns k

  node_same : (ns : List Node) (k : ℕ) → get_or (map (node_in s) ns) k nodes.End ≡ node_in s (get_or ns k nodes.End)
  node_same [] k = refl
  node_same (n ∷ ns) zero = refl
  node_same (n ∷ ns) (suc k) = node_same ns k

  -- a body of a text and what the state gets for it
  pub record IsShift (strings : ℕ) (x y : Body) : Type 0 where
    pub outer : y.outer ≡ option_map (λ n. length s.bodies + n) x.outer
    pub arguments : y.arguments ≡ x.arguments
    pub locals : length y.locals ≡ length x.locals
    pub nodes : y.nodes ≡ map (node_in s) x.nodes
    pub places : length y.places ≡ length x.places
    pub initials : Each (λ (z : Local). IsGiven (length s.things + strings) z.initial) y.locals

  abbrev pub Shifts : ℕ → List Body → List Body → Type 0
  Shifts strings [] [] = Unit {0}
  Shifts strings [] (y ∷ ys) = ⊥
  Shifts strings (x ∷ xs) [] = ⊥
  Shifts strings (x ∷ xs) (y ∷ ys) = IsShift strings x y × Shifts strings xs ys

  module _ (strings : ℕ) where
    pub shifts_length : (xs ys : List Body) → Shifts strings xs ys → length xs ≡ length ys
    shifts_length [] [] e = refl
    shifts_length [] (y ∷ ys) e = absurd e
    shifts_length (x ∷ xs) [] e = absurd e
    shifts_length (x ∷ xs) (y ∷ ys) e = ap suc (shifts_length xs ys e.1)

    shift_at : (xs ys : List Body) (j : ℕ) → Shifts strings xs ys → j < length xs → IsShift strings (unwrap_or (slice_get xs j) no_body) (unwrap_or (slice_get ys j) no_body)
    shift_at [] [] j e lt = absurd (omega (arith, lt))
    shift_at [] (y ∷ ys) j e lt = absurd e
    shift_at (x ∷ xs) [] j e lt = absurd e
    shift_at (x ∷ xs) (y ∷ ys) zero e lt = e.0
    shift_at (x ∷ xs) (y ∷ ys) (suc j) e lt = shift_at xs ys j e.1 (omega (arith, lt))

    module _ (told new : List Body) (shifts : Shifts strings told new) (fit : (n : ℕ) → HasBody told n → IsFit told n) where
      abbrev pub both : List Body
      both = s.bodies ++ new

      abbrev up_by : Option ℕ → Option ℕ
      up_by m = option_map (λ n. length s.bodies + n) m

      pub shift_of : (n : ℕ) → HasBody told n → IsShift strings (body_in told n) (body_in both (length s.bodies + n))
      shift_of n has =
          subst (λ (m : Option Body). IsShift strings (body_in told n) (unwrap_or m no_body)) (sym (slice_behind s.bodies new (length s.bodies + n - 1) (n - 1) (omega (arith, has.0))))
          (shift_at told new (n - 1) shifts (omega (arith, has.0, has.1)))

      pub new_has : (n : ℕ) → HasBody told n → HasBody both (length s.bodies + n)
      new_has n has = (omega (arith, has.0), omega (arith, has.1, shifts_length told new shifts, length-append s.bodies new))

      new_outer : (m : Option ℕ) → HasOuter told m → HasOuter both (up_by m)
      new_outer None e = tt
      new_outer (Some k) e = new_has k e

      outer_told : (m : Option ℕ) → HasOuter told m → HasOuter told (option_and_then (λ k. (body_in told k).outer) m)
      outer_told None e = tt
      outer_told (Some k) e = (fit k e).inside

      around_told : (up : ℕ) (m : Option ℕ) → HasOuter told m → HasOuter told (around told up m)
      around_told zero m e = e
      around_told (suc up) m e = around_told up (option_and_then (λ k. (body_in told k).outer) m) (outer_told m e)

      outer_new : (m : Option ℕ) → HasOuter told m → option_and_then (λ k. (body_in both k).outer) (up_by m) ≡ up_by (option_and_then (λ k. (body_in told k).outer) m)
      outer_new None e = refl
      outer_new (Some k) e = (shift_of k e).outer

      around_new : (up : ℕ) (m : Option ℕ) → HasOuter told m → around both up (up_by m) ≡ up_by (around told up m)
      around_new zero m e = refl
      around_new (suc up) m e = ap (around both up) (outer_new m e) ∙ around_new up (option_and_then (λ k. (body_in told k).outer) m) (outer_told m e)

      local_new : (slot : ℕ) (m : Option ℕ) → HasOuter told m → HasLocal told slot m → HasLocal both slot (up_by m)
      local_new slot None e has = has
      local_new slot (Some k) e has =
          let sh = shift_of k e in
          let args : length (body_in both (length s.bodies + k)).arguments ≡ length (body_in told k).arguments = ap length sh.arguments in
          let locals : length (body_in both (length s.bodies + k)).locals ≡ length (body_in told k).locals = sh.locals in
          let within : slot < room (body_in told k) = has in
          omega (arith, args, locals, within)

      local_told : (slot up n : ℕ) → HasBody told n → HasLocal told slot (around told up (Some n)) → HasLocal both slot (around both up (Some (length s.bodies + n)))
      local_told slot up n e has = subst (HasLocal both slot) (sym (around_new up (Some n) e)) (local_new slot (around told up (Some n)) (around_told up (Some n) e) has)

      names_new : (n : ℕ) → HasBody told n → (node : Node) → Names told n node → Names both (length s.bodies + n) (node_in s node)
      names_new n has (nodes.Int i) e = tt
      names_new n has (nodes.Str o) e = tt
      names_new n has (nodes.BlockLit b) e = (new_has b.0 e.0, (shift_of b.0 e.0).outer ∙ ap up_by e.1)
      names_new n has nodes.SelfRef e = tt
      names_new n has nodes.Nil e = tt
      names_new n has (nodes.Read up slot) e = local_told slot up n has e
      names_new n has (nodes.Store up slot) e = local_told slot up n has e
      names_new n has (nodes.Send sel) e = tt
      names_new n has (nodes.SelfSend sel) e = tt
      names_new n has (nodes.Resend sel) e = tt
      names_new n has (nodes.Directed parent sel) e = tt
      names_new n has (nodes.Prim name args implied handler) e = tt
      names_new n has nodes.Drop e = tt
      names_new n has nodes.Restart e = tt
      names_new n has nodes.Return e = tt
      names_new n has nodes.NonLocal e = tt
      names_new n has nodes.End e = tt

      pub new_fit : (n : ℕ) → HasBody told n → IsFit both (length s.bodies + n)
      new_fit n has =
          let f : IsFit told n = fit n has in
          let sh = shift_of n has in
          let ns : List Node = (body_in told n).nodes in
          let same : map (node_in s) ns ≡ (body_in both (length s.bodies + n)).nodes = sym sh.nodes in
          let count : length (map (node_in s) ns) ≡ length ns = length-map ns (node_in s) in
          record {
            inside = subst (HasOuter both) (sym sh.outer) (new_outer (body_in told n).outer f.inside);
            some = subst (λ (xs : List Node). 0 < length xs) same (omega (arith, count, f.some));
            there = subst (λ (xs : List Node). (k : ℕ) → k < length xs → taken (get_or xs k nodes.End) ≤ depth xs k) same (λ k lt.
                let at = f.there k (omega (arith, lt, count)) in
                omega (arith, at, ap taken (node_same ns k) ∙ taken_same (get_or ns k nodes.End), depth_same ns k));
            ends = subst (λ (xs : List Node). (k : ℕ) → k < length xs → is_inner (get_or xs k nodes.End) ≡ true → k + 1 < length xs) same (λ k lt inner.
                let at = f.ends k (omega (arith, lt, count)) (sym (ap is_inner (node_same ns k) ∙ inner_same (get_or ns k nodes.End)) ∙ inner) in
                omega (arith, at, count));
            names = subst (λ (xs : List Node). (k : ℕ) → k < length xs → Names both (length s.bodies + n) (get_or xs k nodes.End)) same (λ k lt.
                subst (Names both (length s.bodies + n)) (sym (node_same ns k)) (names_new n has (get_or ns k nodes.End) (f.names k (omega (arith, lt, count)))));
          }

      -- every body
      fit_by : (old : (n : ℕ) → HasBody s.bodies n → IsFit s.bodies n) (n : ℕ) → HasBody both n → (b : Bool) → nat_le n (length s.bodies) ≡ b → IsFit both n
      fit_by old n has true e = old_fit s.bodies new old n (has.0, leb-true n (length s.bodies) e)
      fit_by old n has false e =
          let past = leb-false n (length s.bodies) e in
          let same : length s.bodies + (n - length s.bodies) ≡ n = omega (arith, past) in
          subst (IsFit both) same (new_fit (n - length s.bodies) (omega (arith, past), omega (arith, past, has.1, shifts_length told new shifts, length-append s.bodies new)))

      pub all_fit : ((n : ℕ) → HasBody s.bodies n → IsFit s.bodies n) → (n : ℕ) → HasBody both n → IsFit both n
      all_fit old n has = fit_by old n has (nat_le n (length s.bodies)) refl

    -- What they say.

    says_new : (names : List (List ℕ)) (node : Node) → Says names strings node → Says names (length s.things + strings) (node_in s node)
    says_new names (nodes.Int i) e = tt
    says_new names (nodes.Str o) e = omega (arith, e)
    says_new names (nodes.BlockLit b) e = tt
    says_new names nodes.SelfRef e = tt
    says_new names nodes.Nil e = tt
    says_new names (nodes.Read up slot) e = tt
    says_new names (nodes.Store up slot) e = tt
    says_new names (nodes.Send sel) e = e
    says_new names (nodes.SelfSend sel) e = e
    says_new names (nodes.Resend sel) e = e
    says_new names (nodes.Directed parent sel) e = e
    says_new names (nodes.Prim name args implied handler) e = e
    says_new names nodes.Drop e = tt
    says_new names nodes.Restart e = tt
    says_new names nodes.Return e = tt
    says_new names nodes.NonLocal e = tt
    says_new names nodes.End e = tt

    all_say : (names : List (List ℕ)) (ns : List Node) → Each (Says names strings) ns → Each (Says names (length s.things + strings)) (map (node_in s) ns)
    all_say names [] e = tt
    all_say names (n ∷ ns) e = (says_new names n e.0, all_say names ns e.1)

    said_new : (names : List (List ℕ)) (x y : Body) → IsShift strings x y → IsSaid names strings x → IsSaid names (length s.things + strings) y
    said_new names x y sh e = record {
      said = subst (Each (Says names (length s.things + strings))) (sym sh.nodes) (all_say names x.nodes e.said);
      placed = sh.places ∙ e.placed ∙ sym (length-map x.nodes (node_in s)) ∙ ap length (sym sh.nodes);
      initials = sh.initials;
    }

    pub new_said : (names : List (List ℕ)) (xs ys : List Body) → Shifts strings xs ys → Each (IsSaid names strings) xs → Each (IsSaid names (length s.things + strings)) ys
    new_said names [] [] sh e = tt
    new_said names [] (y ∷ ys) sh e = absurd sh
    new_said names (x ∷ xs) [] sh e = absurd sh
    new_said names (x ∷ xs) (y ∷ ys) sh e = (said_new names x y sh.0 e.0, new_said names xs ys sh.1 e.1)
