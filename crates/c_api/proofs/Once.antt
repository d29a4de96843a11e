-- No second outcome for C: what is lent to a call fixes its result, the words in `said` and all that it leaves.
use mathlib.Core.Path.{◌≡◌, refl, sym, ap, ◌∙◌}
use mathlib.Core.List.{List}
use Prim.Native.Nat.{ℕ}
use Rattle.replies.specs.Said.{Said}
use Rattle.replies.proofs.Laws.{One}
use Rattle.grid.specs.declared.Grid.{Grid}
use Rattle.field.specs.declared.Span.{Span}
use Rattle.field.specs.Slots.{Slots}
use Rattle.field.specs.Field.{Field}
use Rattle.field.specs.Store.{Store, Outcome, left}
use Rattle.field.specs.Calls.{made, Freshened, Added}
use Rattle.field.specs.Filters.{Filtered}
use Rattle.field.specs.Compact as compact
use Rattle.field.specs.Meshes.{Mesh, Rasterized}
use Rattle.field.specs.Populate.{Populated}
use Rattle.field.proofs.Outcomes.{freshened-one, added-one}
use Rattle.field.proofs.FilterCalls.{filtered-one}
use Rattle.field.proofs.CompactOne.{compacted-one}
use Rattle.field.proofs.MeshOutcomes.{rasterized-one, populated-one}
use Rattle.c_api.specs.Words.{words_of, Tells, Answers}

-- `ends s l` is the outcome that says `s` and leaves `l`. Two answers for C of which R holds are one.
abbrev Once : {O L : Type 0} → (O → Type 0) → (Said → L → O) → Type 0
Once {O} {L} R ends =
    (l l' : L) (r r' : ℕ) (w w' : List ℕ)
    → Answers (λ s. R (ends s l)) r w → Answers (λ s. R (ends s l')) r' w' → (l ≡ l') × ((r ≡ r') × (w ≡ w'))

-- one reply is told in one way
told-once : {s s' : Said} {r r' : ℕ} {w w' : List ℕ} → s ≡ s' → Tells s r w → Tells s' r' w' → (r ≡ r') × (w ≡ w')
told-once e a b =
    (a.number ∙ ap (λ (s : Said). s.number) e ∙ sym b.number, a.values ∙ ap (λ (s : Said). words_of s.values) e ∙ sym b.values)

-- from the library's law to C's, where an outcome shows what it says and what it leaves
once : {O L : Type 0} (R : O → Type 0) (ends : Said → L → O) (says : O → Said) (leaves : O → L) → ((s : Said) (l : L) → says (ends s l) ≡ s) → ((s : Said) (l : L) → leaves (ends s l) ≡ l) → One R → Once R ends
once R ends says leaves says_is leaves-is one l l' r r' w w' a b =
    let e = one (ends a.0 l) (ends b.0 l') a.1 b.1 in (
      sym (leaves-is a.0 l) ∙ ap leaves e ∙ leaves-is b.0 l',
      told-once (sym (says_is a.0 l) ∙ ap says e ∙ says_is b.0 l') a.2 b.2,
    )

-- a fresh field, for which no marks are lent
pub fresh-once : (g : Grid) (heads : List ℕ) (t : Slots) → Once (Freshened g heads t) (λ (s : Said) (l : List ℕ × Slots). made s l.0 l.1)
fresh-once g heads t =
    once (Freshened g heads t) (λ s l. made s l.0 l.1) (λ o. o.said) (λ o. (o.heads, o.slots)) (λ s l. refl) (λ s l. refl) (freshened-one g heads t)

-- the calls that leave a store
store-once : (R : Outcome → Type 0) → One R → Once R left
store-once R one = once R left (λ o. o.said) (λ o. o.store) (λ s l. refl) (λ s l. refl) one

pub add-span-once : (g : Grid) (x z : ℕ) (new : Span) (th : ℕ) (s : Store) → Once (Added g x z new th s) left
add-span-once g x z new th s = store-once (Added g x z new th s) (added-one g x z new th s)

-- each of the three filters
pub filter-once : (g : Grid) (filter : Field → Field) (s : Store) → Once (Filtered g filter s) left
filter-once g filter s = store-once (Filtered g filter s) (filtered-one g filter s)

-- a mesh, and a single triangle, which is a mesh of one
pub rasterize-once : (g : Grid) (m : Mesh) (th : ℕ) (s : Store) → Once (Rasterized g m th s) left
rasterize-once g m th s = store-once (Rasterized g m th s) (rasterized-one g m th s)

pub populate-once : (g : Grid) (m : Mesh) (tall climb : ℕ) (s : Store) → Once (Populated g m tall climb s) left
populate-once g m tall climb s = store-once (Populated g m tall climb s) (populated-one g m tall climb s)

-- the compact result leaves a store and a result
pub into-compact-once : (g : Grid) (tall climb : ℕ) (s : Store) (t : compact.Result) → Once (compact.Compacted g tall climb s t) (λ (said : Said) (l : Store × compact.Result). compact.outcome said l.0 l.1)
into-compact-once g tall climb s t =
    once (compact.Compacted g tall climb s t) (λ said l. compact.outcome said l.0 l.1) (λ o. o.said) (λ o. (o.store, o.result)) (λ said l. refl) (λ said l. refl) (compacted-one g tall climb s t)
