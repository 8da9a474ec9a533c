-- Drawings are determined, and a symbol that is not drawn has none.
use Rattle.std.proofs.Common.{Option, Some, None, ◌≡◌, ◌<◌, ◌≤◌, ℕ, zero, suc, ◌+◌, List, [], ◌∷◌, ◌++◌, take, get_or, length, append-nil, inl, inr, refl, sym, ap, ◌∙◌, subst, ⊎_elim, arith}
use Rattle.std.proofs.lemmas.List.{append_assoc}
use Rattle.std.specs.List.{AllByRecursion}
use Rattle.dd_model.specs.declared.pair.Pair.TheVariants.{Vertex}
use Rattle.dd_model.specs.Symbol.{Symbol}
use Rattle.dd_model.specs.Cell.{AreCells}
use Rattle.dd_model.specs.Reading.{IsReadable}
use Rattle.dd_covers.proofs.TorusCovers.{torus_cover_once}
use Rattle.dd_lattice.specs.NetOf.{IsNet}
use Rattle.dd_model.specs.declared.frame.Frame.{Frame}
use Rattle.dd_lattice.specs.declared.net.Net.{Net}
use Rattle.dd_lattice.proofs.OneChoice.{one_vertices, one_net}
use Rattle.dd_gram.specs.Frames.{IsOwnFrame}
use Rattle.dd_gram.proofs.KeptForms.{form_unique, form_positive}
use Rattle.dd_gram.proofs.OneFrame.{own_frame_once}
use Rattle.dd_covers.specs.Torus.{IsTorus}
use Rattle.dd_draw.specs.Document.{document}
use Rattle.dd_draw.specs.Tables.{place_at}
use Rattle.dd_draw.proofs.SameNets.{wide_same, place_same, placement_same}
use Rattle.dd_draw.proofs.Uniqueness.{placement_unique}
use Rattle.dd_suite_commands.specs.declared.refusals.SymbolFault.{SymbolFault}
use Rattle.dd_suite_commands.specs.declared.refusals.SymbolFault.TheVariants.{TooManyChambers, BranchingTooLarge, NotFlat, TooManyVertices, TooWide}
use Rattle.dd_suite_commands.specs.declared.refusals.SymbolRefusal.{SymbolRefusal}
use Rattle.dd_suite_commands.specs.declared.stop.Stop.{Stop}
use Rattle.dd_suite_commands.specs.declared.stop.Stop.TheVariants.{Refused, Memory}
use Rattle.dd_suite_commands.specs.declared.drawings.TorusNet.{TorusNet}
use Rattle.dd_suite_commands.specs.Made.{IsLeastTorus, IsCurved}
use Rattle.dd_suite_commands.specs.DrawnNets.{IsDrawable, AddsNetDrawing}
use Rattle.dd_suite_commands.specs.Drawings.{IsTorusNet, IsCell, IsDrawing, AddsDrawing, AreDrawings, IsWideNet, IsCrowded, IsUndrawn, IsFirstUndrawn}
use Rattle.dd_suite_commands.specs.Stops.{IsStop}
use Rattle.dd_suite_commands.proofs.MadeOnce.{torus_once}
use Rattle.dd_suite_commands.proofs.TorusForms.{cover_torus, least_torus, many_vertices}

-- two nets of a symbol are nets of one torus
one_torus : (s : Symbol) (a b : Net) → IsReadable s → (x : IsTorusNet s a) → IsTorusNet s b → IsNet x.torus b
one_torus s a b readable x y = subst (λ t. IsNet t b) (torus_once s y.torus x.torus readable y.least x.least) y.is_net

same_vertices : (s : Symbol) (a b : Net) → IsReadable s → IsTorusNet s a → IsTorusNet s b → a.vertices ≡ b.vertices
same_vertices s a b readable x y = one_vertices x.torus a b x.is_net (one_torus s a b readable x y)

same_edges : (s : Symbol) (a b : Net) → IsReadable s → IsTorusNet s a → IsTorusNet s b → a.edges.items ≡ b.edges.items
same_edges s a b readable x y = one_net x.torus a b (least_torus s x.torus readable x.least) x.is_net (one_torus s a b readable x y)

-- a torus has one cell of a shape
cell_once : (shape : Option Frame) (t : Symbol) (f g : Frame) → IsTorus t → IsCell shape t f → IsCell shape t g → f ≡ g
cell_once (Some given) t f g torus a b = a ∙ sym b
cell_once None t f g torus a b =
    let forms = form_unique t a.form b.form torus a.is_form b.is_form in
    own_frame_once b.form f g (form_positive t b.form torus b.is_form) (subst (λ h. IsOwnFrame h f) forms a.is_own) b.is_own

pub drawing_once : (shape : Option Frame) (s : Symbol) (one other : List ℕ) → IsReadable s → IsDrawing shape s one → IsDrawing shape s other → one ≡ other
drawing_once shape s one other readable x y =
    let many = same_vertices s x.net y.net readable x.is_net y.is_net in
    let edges = same_edges s x.net y.net readable x.is_net y.is_net in
    let points = placement_unique y.net x.points y.points y.net.joined (placement_same x.net y.net many edges x.points x.placed) y.placed in
    let same = torus_once s y.is_net.torus x.is_net.torus readable y.is_net.least x.is_net.least in
    let frames = cell_once shape x.is_net.torus x.frame y.frame (least_torus s x.is_net.torus readable x.is_net.least) x.is_cell
    (subst (λ t. IsCell shape t y.frame) same y.is_cell) in
    x.is_document
    ∙ ap (λ f. document f x.net.edges.items x.points) frames
    ∙ ap (λ es. document y.frame es x.points) edges
    ∙ ap (document y.frame y.net.edges.items) points
    ∙ sym y.is_document

pub drawings_once : (shape : Option Frame) (ss : List Symbol) (one other : List ℕ) → AllByRecursion IsReadable ss → AreDrawings shape ss one → AreDrawings shape ss other → one ≡ other
drawings_once shape [] one other readable x y = x ∙ sym y
drawings_once shape (s ∷ ss) one other readable x y =
    x.4 ∙ ap (λ a. a ++ x.1) (drawing_once shape s x.0 y.0 readable.0 x.2 y.2)
    ∙ ap (λ b. y.0 ++ b) (drawings_once shape ss x.1 y.1 readable.1 x.3 y.3) ∙ sym y.4

-- a symbol whose net has a number that is too wide is not drawn
not_narrow : (shape : Option Frame) (s : Symbol) (text : List ℕ) (net : Net) (why : SymbolFault) → IsReadable s → IsTorusNet s net → IsWideNet net why → IsDrawing shape s text → ⊥
not_narrow shape s text net (TooManyChambers n) readable of wide is = wide
not_narrow shape s text net (BranchingTooLarge v) readable of wide is = wide
not_narrow shape s text net (NotFlat x) readable of wide is = wide
not_narrow shape s text net (TooManyVertices count) readable of wide is = wide
not_narrow shape s text net (TooWide step row column) readable of wide is =
    let many = same_vertices s net is.net readable of is.is_net in
    let edges = same_edges s net is.net readable of is.is_net in
    let p = place_at step row column in
    is.narrow p (place_same net is.net many edges p wide.place) (wide_same net is.net many edges p wide.wide)

-- the torus cover of a symbol that is drawn has at most 96 vertices
not_few : (shape : Option Frame) (s : Symbol) (text : List ℕ) (why : SymbolFault) → IsReadable s → IsCrowded s why → IsDrawing shape s text → ⊥
not_few shape s text (TooManyChambers n) readable crowded is = crowded
not_few shape s text (BranchingTooLarge v) readable crowded is = crowded
not_few shape s text (NotFlat x) readable crowded is = crowded
not_few shape s text (TooManyVertices count) readable crowded is =
    let least = is.is_net.least in
    let same = (torus_cover_once s crowded.cover least.cover crowded.below least.below readable.symbol.symbol readable.connected crowded.is_cover least.is_cover).0 in
    let torus = cover_torus s least.cover least.below readable least.flat least.is_cover in
    let vertices = subst (λ c. AreCells c Vertex crowded.vertices) same crowded.are_vertices in
    let many = many_vertices least.cover is.is_net.torus is.net crowded.vertices torus least.least is.is_net.is_net vertices in
    let told = crowded.many in
    let over = crowded.over in
    let few = is.few in
    omega (arith, many, told, over, few)
not_few shape s text (TooWide step row column) readable crowded is = crowded

not_curved : (shape : Option Frame) (s : Symbol) (text : List ℕ) (why : SymbolFault) → IsCurved s why → IsDrawing shape s text → ⊥
not_curved shape s text (TooManyChambers n) curved is = curved
not_curved shape s text (BranchingTooLarge v) curved is = curved
not_curved shape s text (NotFlat x) curved is = curved.0 is.is_net.least.flat
not_curved shape s text (TooManyVertices count) curved is = curved
not_curved shape s text (TooWide step row column) curved is = curved

undrawn : (shape : Option Frame) (s : Symbol) (text : List ℕ) (why : SymbolFault) → IsReadable s → IsUndrawn s why → IsDrawing shape s text → ⊥
undrawn shape s text why readable fault is =
    ⊎_elim (λ curved. not_curved shape s text why curved is)
    (λ off. ⊎_elim (λ crowded. not_few shape s text why readable crowded is)
    (λ h. not_narrow shape s text h.net why readable h.is_net h.wide is) off) fault

pub none_drawn : (shape : Option Frame) (k : ℕ) (ss : List Symbol) (text : List ℕ) (r : SymbolRefusal) → AllByRecursion IsReadable ss → IsFirstUndrawn shape k ss r → AreDrawings shape ss text → ⊥
none_drawn shape k [] text r readable fault is = fault
none_drawn shape k (s ∷ ss) text r readable (inl here) is = undrawn shape s is.0 r.why readable.0 here.1 is.2
none_drawn shape k (s ∷ ss) text r readable (inr later) is = none_drawn shape (k + 1) ss is.1 r readable.1 later.1 is.3

-- the drawing of its net draws a symbol
pub drawing_of_net : (shape : Option Frame) (s : Symbol) (of : TorusNet) (old new : List ℕ) → IsLeastTorus s of.torus → IsDrawable of → AddsNetDrawing shape of old new → AddsDrawing shape s old new
drawing_of_net shape s of old new least drawable is = record {
  drawing = document is.frame of.net.edges.items is.points;
  is_drawing = record {
    net = of.net;
    is_net = record { torus = of.torus; least = least; is_net = drawable.net };
    frame = is.frame;
    is_cell = is.is_cell;
    few = drawable.few;
    narrow = is.narrow;
    points = is.points;
    placed = is.placed;
    is_document = refl;
  };
  text = is.text;
}

-- why a net is not placed is why its symbol is not drawn
pub stop_of_net : (s : Symbol) (net : Net) (stop : Stop SymbolFault) → IsTorusNet s net → net.vertices ≤ 96 → IsStop (IsWideNet net) stop → IsStop (IsUndrawn s) stop
stop_of_net s net (Refused why) of few is = inr (inr (record { net = net; is_net = of; few = few; wide = is }))
stop_of_net s net Memory of few is = tt

-- one drawing more
pub drawings_more : (shape : Option Frame) (ss : List Symbol) (s : Symbol) (text one : List ℕ) → AreDrawings shape ss text → IsDrawing shape s one → AreDrawings shape (ss ++ s ∷ []) (text ++ one)
drawings_more shape [] s text one is drawing = (one, [], drawing, refl, ap (λ a. a ++ one) is ∙ sym (append-nil one))
drawings_more shape (r ∷ ss) s text one is drawing =
    (is.0, is.1 ++ one, is.2, drawings_more shape ss s is.1 one is.3 drawing, ap (λ a. a ++ one) is.4 ∙ append_assoc is.0 is.1 one)

-- after symbols that are drawn comes the first that is not
pub undrawn_after : (shape : Option Frame) (k : ℕ) (ss : List Symbol) (text : List ℕ) (i : ℕ) (r : SymbolRefusal) (s : Symbol) → i < length ss → AreDrawings shape (take i ss) text
    → r.symbol ≡ k + i → IsUndrawn (get_or ss i s) r.why → IsFirstUndrawn shape k ss r
undrawn_after shape k [] text i r s below is e fault = absurd (omega arith)
undrawn_after shape k (t ∷ ss) text zero r s below is e fault = inl ((omega arith), fault)
undrawn_after shape k (t ∷ ss) text (suc i) r s below is e fault =
    let rest : i < length ss = omega arith in
    let place : r.symbol ≡ k + 1 + i = omega arith in
    inr ((is.0, is.2), undrawn_after shape (k + 1) ss is.1 i r s rest is.3 place fault)
