-- Written by tools/names.py from names.txt and specs/Sets.antt.
-- The numbers of names that rules speak of, by name: `use Rattle.names.specs.Tag as tag` and then `tag.template`.
-- `proofs/Tags.antt` ties each to its bytes in the table.
-- Assumes nothing.
use Rattle.std.specs.Prelude.{ℕ}

abbrev pub a : ℕ
a = 1

abbrev pub address : ℕ
address = 4

abbrev pub annotation_xml : ℕ
annotation_xml = 17

abbrev pub applet : ℕ
applet = 18

abbrev pub area : ℕ
area = 20

abbrev pub article : ℕ
article = 21

abbrev pub aside : ℕ
aside = 22

abbrev pub b : ℕ
b = 28

abbrev pub base : ℕ
base = 29

abbrev pub basefont : ℕ
basefont = 32

abbrev pub bgsound : ℕ
bgsound = 35

abbrev pub big : ℕ
big = 36

abbrev pub blockquote : ℕ
blockquote = 37

abbrev pub body : ℕ
body = 38

abbrev pub br : ℕ
br = 39

abbrev pub button : ℕ
button = 40

abbrev pub caption : ℕ
caption = 43

abbrev pub center : ℕ
center = 44

abbrev pub code : ℕ
code = 50

abbrev pub col : ℕ
col = 51

abbrev pub colgroup : ℕ
colgroup = 52

abbrev pub color : ℕ
color = 53

abbrev pub dd : ℕ
dd = 55

abbrev pub desc : ℕ
desc = 58

abbrev pub details : ℕ
details = 59

abbrev pub dialog : ℕ
dialog = 60

abbrev pub dir : ℕ
dir = 63

abbrev pub div : ℕ
div = 64

abbrev pub dl : ℕ
dl = 65

abbrev pub dt : ℕ
dt = 66

abbrev pub em : ℕ
em = 69

abbrev pub embed : ℕ
embed = 70

abbrev pub encoding : ℕ
encoding = 71

abbrev pub face : ℕ
face = 72

abbrev pub fieldset : ℕ
fieldset = 123

abbrev pub figcaption : ℕ
figcaption = 124

abbrev pub figure : ℕ
figure = 125

abbrev pub font : ℕ
font = 128

abbrev pub footer : ℕ
footer = 129

abbrev pub foreign_object : ℕ
foreign_object = 130

abbrev pub form : ℕ
form = 132

abbrev pub frame : ℕ
frame = 133

abbrev pub frameset : ℕ
frameset = 134

abbrev pub h1 : ℕ
h1 = 141

abbrev pub h2 : ℕ
h2 = 142

abbrev pub h3 : ℕ
h3 = 143

abbrev pub h4 : ℕ
h4 = 144

abbrev pub h5 : ℕ
h5 = 145

abbrev pub h6 : ℕ
h6 = 146

abbrev pub head : ℕ
head = 147

abbrev pub header : ℕ
header = 148

abbrev pub hgroup : ℕ
hgroup = 149

abbrev pub hr : ℕ
hr = 150

abbrev pub html : ℕ
html = 152

abbrev pub i : ℕ
i = 154

abbrev pub iframe : ℕ
iframe = 156

abbrev pub image : ℕ
image = 157

abbrev pub img : ℕ
img = 158

abbrev pub input : ℕ
input = 159

abbrev pub keygen : ℕ
keygen = 168

abbrev pub li : ℕ
li = 175

abbrev pub link : ℕ
link = 180

abbrev pub listing : ℕ
listing = 181

abbrev pub main : ℕ
main = 182

abbrev pub malignmark : ℕ
malignmark = 183

abbrev pub marquee : ℕ
marquee = 190

abbrev pub math : ℕ
math = 195

abbrev pub menu : ℕ
menu = 196

abbrev pub meta : ℕ
meta = 197

abbrev pub mglyph : ℕ
mglyph = 198

abbrev pub mi : ℕ
mi = 199

abbrev pub mn : ℕ
mn = 200

abbrev pub mo : ℕ
mo = 201

abbrev pub ms : ℕ
ms = 202

abbrev pub mtext : ℕ
mtext = 203

abbrev pub nav : ℕ
nav = 205

abbrev pub nobr : ℕ
nobr = 206

abbrev pub noembed : ℕ
noembed = 207

abbrev pub noframes : ℕ
noframes = 208

abbrev pub noscript : ℕ
noscript = 209

abbrev pub object : ℕ
object = 212

abbrev pub ol : ℕ
ol = 213

abbrev pub optgroup : ℕ
optgroup = 214

abbrev pub option : ℕ
option = 215

abbrev pub p : ℕ
p = 217

abbrev pub param : ℕ
param = 218

abbrev pub plaintext : ℕ
plaintext = 227

abbrev pub pre : ℕ
pre = 234

abbrev pub rb : ℕ
rb = 243

abbrev pub rp : ℕ
rp = 257

abbrev pub rt : ℕ
rt = 258

abbrev pub rtc : ℕ
rtc = 259

abbrev pub ruby : ℕ
ruby = 260

abbrev pub s : ℕ
s = 261

abbrev pub sarcasm : ℕ
sarcasm = 262

abbrev pub script : ℕ
script = 263

abbrev pub search : ℕ
search = 264

abbrev pub section : ℕ
section = 265

abbrev pub select : ℕ
select = 266

abbrev pub selectedcontent : ℕ
selectedcontent = 267

abbrev pub size : ℕ
size = 275

abbrev pub small : ℕ
small = 276

abbrev pub source : ℕ
source = 277

abbrev pub span : ℕ
span = 279

abbrev pub strike : ℕ
strike = 293

abbrev pub strong : ℕ
strong = 294

abbrev pub style : ℕ
style = 295

abbrev pub sub : ℕ
sub = 296

abbrev pub summary : ℕ
summary = 297

abbrev pub sup : ℕ
sup = 298

abbrev pub svg : ℕ
svg = 301

abbrev pub table : ℕ
table = 304

abbrev pub tbody : ℕ
tbody = 311

abbrev pub td : ℕ
td = 312

abbrev pub template : ℕ
template = 313

abbrev pub textarea : ℕ
textarea = 316

abbrev pub tfoot : ℕ
tfoot = 319

abbrev pub th : ℕ
th = 320

abbrev pub thead : ℕ
thead = 321

abbrev pub title : ℕ
title = 322

abbrev pub tr : ℕ
tr = 323

abbrev pub track : ℕ
track = 324

abbrev pub tt : ℕ
tt = 325

abbrev pub type : ℕ
type = 326

abbrev pub u : ℕ
u = 327

abbrev pub ul : ℕ
ul = 328

abbrev pub var : ℕ
var = 329

abbrev pub wbr : ℕ
wbr = 334

abbrev pub xmp : ℕ
xmp = 349
