-- Each promise of this crate allows one answer. Assumes nothing.
use Rattle.laws.proofs.OneAnswer.{OneAnswer, same}
use Rattle.curve.proofs.cover_number.Kinds as cover-number-kinds
use Rattle.curve.proofs.cover_number.Reads as cover-number-reads
use Rattle.curve.proofs.mean_tenths.Kinds as mean-tenths-kinds
use Rattle.curve.proofs.mean_tenths.Reads as mean-tenths-reads
use Rattle.curve.proofs.composite.Kinds as composite-kinds
use Rattle.curve.proofs.composite.Reads as composite-reads
use Rattle.curve.proofs.class_areas.Kinds as class-areas-kinds
use Rattle.curve.proofs.class_areas.Reads as class-areas-reads
use Rattle.curve.proofs.patches_good.Kinds as patches-good-kinds
use Rattle.curve.proofs.patches_good.Reads as patches-good-reads
use Rattle.curve.proofs.ClassesAdd.add.Kinds as classes-add-kinds
use Rattle.curve.proofs.ClassesAdd.add.Reads as classes-add-reads
use Rattle.curve.proofs.ClassesSub.sub.Kinds as classes-sub-kinds
use Rattle.curve.proofs.ClassesSub.sub.Reads as classes-sub-reads

pub cover_number_one : OneAnswer cover-number-kinds.ps cover-number-kinds.r cover-number-reads.Post
cover_number_one κs a x y s t p q = same p q

pub mean_tenths_one : OneAnswer mean-tenths-kinds.ps mean-tenths-kinds.r mean-tenths-reads.Post
mean_tenths_one κs a x y s t p q = same p q

pub composite_one : OneAnswer composite-kinds.ps composite-kinds.r composite-reads.Post
composite_one κs a x y s t p q = same p q

pub class_areas_one : OneAnswer class-areas-kinds.ps class-areas-kinds.r class-areas-reads.Post
class_areas_one κs a x y s t p q = same p q

pub patches_good_one : OneAnswer patches-good-kinds.ps patches-good-kinds.r patches-good-reads.Post
patches_good_one κs a x y s t p q = same p q

pub classes_add_one : OneAnswer classes-add-kinds.ps classes-add-kinds.r classes-add-reads.Post
classes_add_one κs a x y s t p q = same p q

pub classes_sub_one : OneAnswer classes-sub-kinds.ps classes-sub-kinds.r classes-sub-reads.Post
classes_sub_one κs a x y s t p q = same p q
