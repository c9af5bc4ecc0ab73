-- The tie is met where a run begins: nothing is started, and each half is here.
use Rattle.std.proofs.Common.{◌≡◌, ℕ, zero, suc, ℤ, ◌<◌, ◌≤◌, ◌^◌, List, [], ◌∷◌, length, replicate, sym, refl, ap, ◌∙◌, subst, arith, All}
use Rattle.std.specs.Prelude.{vec_capacity, Option, None, Some}
use Rattle.fast_halves.specs.Shape.{here}
use Rattle.bus_model.specs.declared.transfer.Started.{Started}
use Rattle.tag_table.specs.Rule.{started_at}
use Rattle.tag_table.specs.Shapes.{BusShape, ComputeShape, IsIdle, fresh_compute}
use Rattle.bus_model.specs.Engines.{started_of}
use Rattle.affine_ast.specs.declared.image.Image.{Image}
use Rattle.direct_meaning.specs.Memory.{slow_list}
use Rattle.prompt_semantics.specs.Device.{Device, record_of}
use Rattle.prompt_semantics.specs.Prompt.{first_device}
use Rattle.overlap_memory.specs.declared.memory.Memory.{Memory}
use Rattle.overlap_memory.specs.Tied.{Tied, TagsApart, IsPlaced, half_at, memref_at, tag_of, lists_of, how_many}
use Rattle.overlap_memory.specs.First.{IsFirst, shape_at_first}
use Rattle.overlap_memory.proofs.Lists.{none_some}

abbrev none : Option Started
none = None

idle_all : (n tag : ℕ) → started_at (replicate n None) tag ≡ None
idle_all zero tag = refl
idle_all (suc n) zero = refl
idle_all (suc n) (suc tag) = idle_all n tag

none_of : (n : ℕ) → how_many (replicate n None) ≡ 0
none_of zero = refl
none_of (suc n) = let h = none_of n in omega (arith, h)

so_many : (n : ℕ) → length (replicate {A = Option Started} n None) ≡ n
so_many zero = refl
so_many (suc n) = ap suc (so_many n)

none_there : (c : List ℤ) → length c ≡ 0 → c ≡ []
none_there [] e = refl
none_there (z ∷ c) e = absurd (omega (arith, e))

pub tied_at_first : (bus : BusShape) (x : Memory) (words : List ℤ) (y : Device) → x.seat ≡ fresh_compute bus.id words bus.tags → IsIdle bus.id x.helper → bus.words ≡ length words → bus.words < 2 ^ 32
    → x.records.items ≡ [] → bus.tags ≤ vec_capacity x.records → x.live ≡ 0 → ((number half : ℕ) → tag_of (half_at x.halves.items number half) ≡ None)
    → ((number half : ℕ) (cells : List ℤ) → half_at x.halves.items number half ≡ Some (here cells) → length cells ≡ (memref_at x.halves.items number).cells) → IsFirst x.seat.prompt y → Tied bus (shape_at_first x.halves.items) x y
tied_at_first bus x words y seat helper sized small records room live home whole first = record {
  seat = ap (λ (s : ComputeShape). s.id) seat;
  helper = helper;
  tagged = ap (λ (s : ComputeShape). length s.tags) seat ∙ so_many bus.tags;
  small = small;
  sized = sized ∙ sym (ap (λ (s : ComputeShape). length s.prompt) seat);
  slow = sym first.slow;
  records = records ∙ sym first.outstanding;
  tags = λ tag. ap (λ (s : ComputeShape). started_at s.tags tag) seat ∙ idle_all bus.tags tag ∙ sym (ap (λ ts. started_of (lists_of y.halves ts) tag) first.outstanding);
  tags_apart = subst TagsApart (sym first.outstanding) tt;
  placed = subst (All (IsPlaced bus.words)) (sym first.outstanding) (λ k d lt. absurd (omega (arith, lt)));
  memrefs = refl;
  cells = λ number. refl;
  halves = λ number. refl;
  here = λ number half cells has e. none_there cells (whole number half cells e ∙ sym has ∙ ap (λ l. length l) (first.halves number half)) ∙ sym (first.halves number half);
  away = λ m h t. ((λ e. absurd (none_some (tag_of (half_at x.halves.items m h)) t (home m h) e)), (λ g. absurd (none_some none g.0 refl (sym (ap (λ ts. started_of (lists_of y.halves ts) t) first.outstanding) ∙ g.1))));
  allocated = λ tag t r. absurd (none_some None t refl (sym (ap (record_of tag) first.outstanding) ∙ r));
  rooms = λ tag t r. absurd (none_some None t refl (sym (ap (record_of tag) first.outstanding) ∙ r));
  live = live ∙ sym first.live;
  counted = ap (λ ts. length ts) first.outstanding ∙ sym (ap (λ (s : ComputeShape). how_many s.tags) seat ∙ none_of bus.tags);
  room = room;
}

-- the first state of the prompt meaning is such a state
pub first_is_first : (m : Image) → IsFirst (slow_list m.memrefs) (first_device m)
first_is_first m = record { slow = refl; halves = λ number half. refl; live = refl; outstanding = refl }
