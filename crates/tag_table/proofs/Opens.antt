-- The rule at the start and at the end.
use Rattle.std.proofs.Common.{◌≡◌, ◌⊎◌, ℕ, ℤ, pos, zero, suc, ◌+◌, ◌<◌, List, [], ◌∷◌, ◌++◌, map, replicate, length, get_or, set, sym, refl, ap, ◌∙◌, subst, ⊎_elim, arith, rules, length-append}
use Rattle.std.proofs.lemmas.List.{map-append, length-map, length-replicate}
use Rattle.std.specs.Prelude.{Option, Some, None, slice_index, FitsSigned}
use mathlib.Core.Option.{some, some-injective, some-ne-none}
use native.Mathlib.Decide.{dec_le}
use Rattle.std.proofs.lemmas.List.{get_or_past, ext_get_or}
use lib.ListN.{get_elem?}
use mir.Syntax.{w64}
use mir.Val.{of_z, to_z}
use Rattle.std.proofs.lemmas.Int.{to_z-of_z}
use Rattle.atomic_table.specs.Table.{opening, Splits, Seen}
use Rattle.atomic_table.proofs.Lists.{at_snoc, at_longer}
use Rattle.bus_model.specs.Copies.{number_at}
use Rattle.tag_table.specs.Rule.{started_at, free, Slot, slow_at, BusOk, fresh}
use Rattle.std.specs.List.{range_with_len}
use Rattle.atomic_table.specs.Seated.{TableId}
use Rattle.tag_table.specs.Steps.{one_more, new_engine}
use Rattle.tag_table.specs.Shapes.{EngineShape, fresh_engine, row_of}
use Rattle.tag_table.proofs.Tags.{put, stays}
use Rattle.tag_table.proofs.Ledgers.{BusLedger, keeps_ledger, same_moved, same_cells}
use Rattle.tag_table.proofs.Engines.{my_view, St}
use Rattle.tag_table.proofs.Compute.{compute_moves}
use Rattle.bus_model.specs.declared.transfer.Started.{Started}
use Rattle.tag_table.specs.declared.view.Work.{Work}
use Rattle.tag_table.specs.declared.view.ComputeView.{ComputeView}
use Rattle.tag_table.specs.declared.view.EngineView.{EngineView}
use Rattle.tag_table.specs.declared.view.View.{View}
use Rattle.tag_table.specs.declared.view.View.TheVariants.{Compute, Engine}

none_at : (n t : ℕ) → started_at (replicate n None) t ≡ None
none_at zero t = refl
none_at (suc n) zero = refl
none_at (suc n) (suc t) = none_at n t

home_at : (n t : ℕ) (x : Slot) → t < n → get_elem? (map some (replicate n x)) t ≡ some (some x)
home_at zero t x lt = absurd (omega arith)
home_at (suc n) zero x lt = refl
home_at (suc n) (suc t) x lt = home_at n t x (omega arith)

zero_at : (n t : ℕ) (l : List ℕ) → t < n → slice_index (replicate n 0 ++ l) t ≡ 0
zero_at zero t l lt = absurd (omega arith)
zero_at (suc n) zero l lt = refl
zero_at (suc n) (suc t) l lt = zero_at n t l (omega arith)

past : (n i : ℕ) (l : List ℕ) → slice_index (replicate n 0 ++ l) (n + i) ≡ slice_index l i
past zero i l = ap (slice_index l) (omega arith)
past (suc n) i l = ap (slice_index (replicate (suc n) 0 ++ l)) (let h : suc n + i ≡ suc (n + i) = omega arith in h) ∙ past n i l

word_at : (words : List ℤ) (l : List ℕ) (i : ℕ) → i < length words → slice_index (map (of_z w64) words ++ l) i ≡ of_z w64 (number_at words i)
word_at [] l i lt = absurd (omega arith)
word_at (x ∷ xs) l zero lt = refl
word_at (x ∷ xs) l (suc i) lt = word_at xs l i (omega arith)

row_assoc : (n : ℕ) (words : List ℤ) → row_of words n ≡ replicate n 0 ++ (map (of_z w64) words ++ 0 ∷ [])
row_assoc zero words = refl
row_assoc (suc n) words = ap (λ l. 0 ∷ l) (row_assoc n words)

no_some : (o : Option Started) (st : Started) → o ≡ None → o ≡ Some st → ⊥
no_some o st a b = cc

pub opens : (words : List ℤ) (tags : ℕ) → ((i : ℕ) → FitsSigned w64 (number_at words i)) → BusOk (length words) tags (opening (row_of words tags) (replicate tags None) (Compute (fresh words tags)))
opens words tags fits = record {
  sized = omega (arith, length-append (replicate tags 0 ++ map (of_z w64) words) (0 ∷ []), length-append (replicate tags 0) (map (of_z w64) words), length-replicate {A = ℕ} tags 0, length-map words (of_z w64));
  slots = length-map (replicate tags None) some ∙ length-replicate tags None;
  seat = 0;
  me = fresh words tags;
  there = refl;
  only = one;
  tagged = length-replicate tags None;
  long = refl;
  state = λ _. record { phase = free; moved = 0; cells = [] };
  each = λ t lt. (ap (λ l. slice_index l t) (row_assoc tags words) ∙ zero_at tags t (map (of_z w64) words ++ 0 ∷ []) lt, none_at tags t, home_at tags t None lt);
  holds = λ t h. absurd (cc);
  engines = λ j e w h _. absurd (no_engine j e h);
  sizes = λ j e h. absurd (no_engine j e h);
  ledger = record {
    words_are = λ i lt _. ap (to_z w64) (ap (λ l. slice_index l (tags + i)) (row_assoc tags words) ∙ past tags i (map (of_z w64) words ++ 0 ∷ []) ∙ word_at words (0 ∷ []) i lt) ∙ to_z-of_z w64 (number_at words i) (fits i);
    placed = λ t st h. absurd (no_some _ st (none_at tags t) h);
    copied = λ t st h. absurd (no_some _ st (none_at tags t) h);
    apart = λ t u a b _ h _. absurd (no_some _ a (none_at tags t) h);
  };
}
  where
    one : (j : ℕ) (u : ComputeView) → get_elem? (Compute (fresh words tags) ∷ []) j ≡ some (Compute u) → j ≡ 0
    one zero u h = refl
    one (suc j) u h = absurd (some-ne-none (Compute u) (sym h))

    no_engine : (j : ℕ) (e : EngineView) → get_elem? (Compute (fresh words tags) ∷ []) j ≡ some (Engine e) → ⊥
    no_engine zero e h = let q : Compute (fresh words tags) ≡ Engine e = some-injective (Compute (fresh words tags)) (Engine e) h in cc
    no_engine (suc j) e h = some-ne-none (Engine e) (sym h)

-- a view of an idle engine joins the others
adds : (n count : ℕ) (s : St) (ok : BusOk n count s) (e' : EngineView) → e'.work ≡ None → e'.words ≡ n → BusOk n count record { words = s.words; homes = s.homes; views = s.views ++ Engine e' ∷ [] }
adds n count s ok e' rest size =
    let old : (j : ℕ) (w : View) → get_elem? (s.views ++ Engine e' ∷ []) j ≡ some w → (get_elem? s.views j ≡ some w) ⊎ (Engine e' ≡ w) = λ j w h. at_snoc s.views (Engine e') w j h in
    let longer : (j : ℕ) (w : View) → get_elem? s.views j ≡ some w → get_elem? (s.views ++ Engine e' ∷ []) j ≡ some w = λ j w h. at_longer s.views (Engine e' ∷ []) j w h in
    record {
      sized = ok.sized;
      slots = ok.slots;
      seat = ok.seat;
      me = ok.me;
      there = longer ok.seat (Compute ok.me) ok.there;
      only = λ j u h. ⊎_elim (λ q. ok.only j u q) (λ (q : Engine e' ≡ Compute u). absurd (cc)) (old j (Compute u) h);
      tagged = ok.tagged;
      long = ok.long;
      state = ok.state;
      each = λ t lt. let y = ok.state t in stays s.views (s.views ++ Engine e' ∷ []) ok.me.held ok.me.held t (slice_index s.words t) (slice_index s.words t) (get_elem? s.homes t) (get_elem? s.homes t) (started_at ok.me.tags t) (started_at ok.me.tags t) y.cells y.moved y.phase
          refl refl refl (λ _ h. h) (λ j st f _ there _. longer j (Engine f) there) (ok.each t lt);
      holds = ok.holds;
      engines = λ j e w h work. ⊎_elim (λ q. ok.engines j e w q work) (λ (q : Engine e' ≡ Engine e). absurd (idle e w q work)) (old j (Engine e) h);
      sizes = λ j e h. ⊎_elim (λ q. ok.sizes j e q) (λ (q : Engine e' ≡ Engine e). let g : e' ≡ e = cc in ap (λ (z : EngineView). z.words) (sym g) ∙ size) (old j (Engine e) h);
      ledger = ok.ledger;
    }
  where
    idle : (e : EngineView) (w : Work) → Engine e' ≡ Engine e → e.work ≡ Some w → ⊥
    idle e w q h = let g : e' ≡ e = cc in let k : e'.work ≡ Some w = subst (λ (z : EngineView). z.work ≡ Some w) (sym g) h in cc

no_number : (h : Option ℕ) (u : ℕ) → h ≡ None → h ≡ Some u → ⊥
no_number h u a b = cc

-- a new engine seat, with the next number
pub splits : (n count id : ℕ) (v : ComputeView) → v.held ≡ None → Splits (BusOk n count) id (Compute v) (Compute (one_more v)) (Engine (new_engine v))
splits n count id v unheld s ok at =
    let mine : v ≡ ok.me = my_view n count s ok id v at in
    let un : ok.me.held ≡ None = subst (λ (z : ComputeView). z.held ≡ None) mine unheld in
    let x = ok.state count in
    let counted : BusOk n count record { words = s.words; homes = s.homes; views = set s.views id (Compute (one_more v)) } =
    compute_moves n count s ok id v at count (one_more v) s.words s.homes x refl refl (λ _ _ _. refl) (λ _ _. refl)
    (ap (λ (z : ComputeView). length z.tags) mine ∙ ok.tagged) (ap (λ (z : ComputeView). length z.prompt) mine ∙ ok.long) (λ u _. ap (λ (z : ComputeView). started_at z.tags u) mine)
    (λ h. absurd (omega arith)) (λ u h. absurd (no_number v.held u unheld h)) (λ u _ h. no_number ok.me.held u un h) (λ h. absurd (omega arith))
    (keeps_ledger n count s.words s.words v.prompt v.tags ok.state (put ok.state count x) (subst (λ (z : ComputeView). BusLedger n (slow_at count s.words) z.prompt z.tags ok.state) (sym mine) ok.ledger) (λ _ _. refl) (same_moved ok.state count x refl) (same_cells ok.state count x refl)) in
    adds n count record { words = s.words; homes = s.homes; views = set s.views id (Compute (one_more v)) } counted (new_engine v) refl (ap (λ (z : ComputeView). length z.prompt) mine ∙ ok.long)

-- with nothing started, the slow words are the prompt memory
pub settled : (n count id : ℕ) (v : ComputeView) (s : St) → Seen (BusOk n count) id (Compute v) s → ((t : ℕ) → started_at v.tags t ≡ None) → (i : ℕ) → i < n → number_at v.prompt i ≡ to_z w64 (slice_index s.words (count + i))
settled n count id v s seen idle i lt =
    let ok = seen.0 in
    let mine : v ≡ ok.me = my_view n count s ok id v seen.1 in
    let is = ok.ledger.words_are i lt (λ t e st has _ _ _. absurd (no_some (started_at v.tags t) st (idle t) (ap (λ (z : ComputeView). started_at z.tags t) mine ∙ has))) in
    ap (λ (z : ComputeView). number_at z.prompt i) mine ∙ sym is

pub fits_all : (l : List ℤ) → ((i : ℕ) → i < length l → FitsSigned w64 (number_at l i)) → (i : ℕ) → FitsSigned w64 (number_at l i)
fits_all l h i = elim (dec_le (length l) i) [ yes p ↦ subst (FitsSigned w64) (sym (get_or_past l i (pos 0) p)) (search rules) | no p ↦ h i (omega arith) ]

pub at_some : (l : List ℕ) (i a d : ℕ) → get_elem? l i ≡ some a → get_or l i d ≡ a
at_some [] i a d e = absurd (some-ne-none a (sym e))
at_some (x ∷ l) zero a d e = some-injective x a e
at_some (x ∷ l) (suc i) a d e = at_some l i a d e

pub settled_list : (n count tags id : ℕ) (m : View) (v : ComputeView) → m ≡ Compute v → ((t : ℕ) → started_at v.tags t ≡ None) → count ≡ tags → (s : St) → Seen (BusOk n count) id m s → (ws : List ℕ) → s.words ≡ ws → (out : List ℤ) → length out ≡ n
    → ((i : ℕ) → i < n → number_at out i ≡ to_z w64 (slice_index ws (tags + i))) → out ≡ v.prompt
settled_list n count tags id m v is idle same s seen ws words out long each =
    let seen' : Seen (BusOk n count) id (Compute v) s = subst (λ q. Seen (BusOk n count) id q s) is seen in
    let mine : v ≡ seen.0.me = my_view n count s seen.0 id v seen'.1 in
    ext_get_or (pos 0) out v.prompt (long ∙ sym (ap (λ (z : ComputeView). length z.prompt) mine ∙ seen.0.long))
    (λ i lt. let near : i < n = omega arith in each i near ∙ sym (settled n count id v s seen' idle i near ∙ (λ k. to_z w64 (slice_index (words k) (same k + i)))))

range_more : (a n : ℕ) → range_with_len a (suc n) ≡ range_with_len a n ++ (a + n) ∷ []
range_more a zero = ap (λ k. k ∷ []) (omega arith)
range_more a (suc n) = ap (λ l. a ∷ l) (range_more (a + 1) n ∙ ap (λ k. range_with_len (a + 1) n ++ k ∷ []) (omega arith))

-- one more engine, with the next number
pub engines_more : (id : TableId) (n : ℕ) (l : List EngineShape) (e : EngineShape) → l ≡ map (fresh_engine id) (range_with_len 0 n) → e ≡ fresh_engine id n → l ++ e ∷ [] ≡ map (fresh_engine id) (range_with_len 0 (n + 1))
engines_more id n l e before is =
    let next : n + 1 ≡ suc n = omega arith in
    let last : 0 + n ≡ n = omega arith in
    (λ k. before k ++ is k ∷ []) ∙ sym (map-append (fresh_engine id) (range_with_len 0 n) (n ∷ [])) ∙ ap (map (fresh_engine id)) (sym (ap (range_with_len 0) next ∙ range_more 0 n ∙ ap (λ k. range_with_len 0 n ++ k ∷ []) last))
