-- The numbered refusals: for each the number under its name, and a row of the table (profile: docs/REFUSALS.md lists when each comes).
use Rattle.std.specs.Prelude.{ℕ, nat_lt, List, [], ◌∷◌, ◌==◌, if◌then◌else◌, codes}

abbrev pub FileTooLong : ℕ
FileTooLong = 10

abbrev pub HexStart : ℕ
HexStart = 20

abbrev pub HexDigit : ℕ
HexDigit = 21

abbrev pub HexLength : ℕ
HexLength = 22

abbrev pub HexSum : ℕ
HexSum = 23

abbrev pub HexType : ℕ
HexType = 24

abbrev pub HexRange : ℕ
HexRange = 25

abbrev pub HexNoEnd : ℕ
HexNoEnd = 26

abbrev pub TomlText : ℕ
TomlText = 30

abbrev pub TomlShape : ℕ
TomlShape = 31

abbrev pub JsonText : ℕ
JsonText = 40

abbrev pub DiagramShape : ℕ
DiagramShape = 41

abbrev pub TypeUnknown : ℕ
TypeUnknown = 42

abbrev pub IdRepeated : ℕ
IdRepeated = 43

abbrev pub PinUnknown : ℕ
PinUnknown = 44

abbrev pub BoardCount : ℕ
BoardCount = 45

abbrev pub ChipMissing : ℕ
ChipMissing = 46

abbrev pub AttrValue : ℕ
AttrValue = 47

abbrev pub DiagramLimit : ℕ
DiagramLimit = 48

abbrev pub BoardLimit : ℕ
BoardLimit = 49

abbrev pub ChipText : ℕ
ChipText = 50

abbrev pub ChipShape : ℕ
ChipShape = 51

abbrev pub ChipPinName : ℕ
ChipPinName = 52

abbrev pub ChipLimit : ℕ
ChipLimit = 53

abbrev pub ChipDisplay : ℕ
ChipDisplay = 54

abbrev pub WasmMagic : ℕ
WasmMagic = 60

abbrev pub WasmCut : ℕ
WasmCut = 61

abbrev pub WasmLeb : ℕ
WasmLeb = 62

abbrev pub WasmSection : ℕ
WasmSection = 63

abbrev pub WasmType : ℕ
WasmType = 64

abbrev pub WasmOpcode : ℕ
WasmOpcode = 65

abbrev pub WasmUtf8 : ℕ
WasmUtf8 = 67

abbrev pub WasmCount : ℕ
WasmCount = 68

abbrev pub WasmLimit : ℕ
WasmLimit = 69

abbrev pub ValidIndex : ℕ
ValidIndex = 70

abbrev pub ValidType : ℕ
ValidType = 71

abbrev pub ValidConst : ℕ
ValidConst = 72

abbrev pub ValidExport : ℕ
ValidExport = 73

abbrev pub ValidForm : ℕ
ValidForm = 74

abbrev pub ImportUnknown : ℕ
ImportUnknown = 75

abbrev pub ImportType : ℕ
ImportType = 76

abbrev pub ChipInit : ℕ
ChipInit = 77

abbrev pub ValidSegment : ℕ
ValidSegment = 78

abbrev pub ValidLimit : ℕ
ValidLimit = 79

abbrev pub ScriptLine : ℕ
ScriptLine = 80

abbrev pub ScriptOrder : ℕ
ScriptOrder = 81

abbrev pub ScriptLimit : ℕ
ScriptLimit = 82

abbrev pub ScriptPart : ℕ
ScriptPart = 83

abbrev pub WaveHead : ℕ
WaveHead = 90

abbrev pub WaveLine : ℕ
WaveLine = 91

abbrev pub WaveTime : ℕ
WaveTime = 92

abbrev pub WaveName : ℕ
WaveName = 93

abbrev pub WaveEnd : ℕ
WaveEnd = 94

abbrev pub TwinDiffers : ℕ
TwinDiffers = 95

abbrev pub WaveVar : ℕ
WaveVar = 96

abbrev pub RequestUnknown : ℕ
RequestUnknown = 100

abbrev pub RequestWords : ℕ
RequestWords = 101

abbrev pub RequestNumber : ℕ
RequestNumber = 102

abbrev pub RequestPin : ℕ
RequestPin = 103

abbrev pub RequestPart : ℕ
RequestPart = 104

abbrev pub RequestValue : ℕ
RequestValue = 105

abbrev pub RequestPast : ℕ
RequestPast = 106

abbrev pub RequestLong : ℕ
RequestLong = 107

abbrev pub RequestWave : ℕ
RequestWave = 108

-- refusals of files: of a project, a module, a script or a wave
abbrev pub files : List (ℕ × List ℕ)
files =
    (FileTooLong, codes "FileTooLong") ∷
    (HexStart, codes "HexStart") ∷
    (HexDigit, codes "HexDigit") ∷
    (HexLength, codes "HexLength") ∷
    (HexSum, codes "HexSum") ∷
    (HexType, codes "HexType") ∷
    (HexRange, codes "HexRange") ∷
    (HexNoEnd, codes "HexNoEnd") ∷
    (TomlText, codes "TomlText") ∷
    (TomlShape, codes "TomlShape") ∷
    (JsonText, codes "JsonText") ∷
    (DiagramShape, codes "DiagramShape") ∷
    (TypeUnknown, codes "TypeUnknown") ∷
    (IdRepeated, codes "IdRepeated") ∷
    (PinUnknown, codes "PinUnknown") ∷
    (BoardCount, codes "BoardCount") ∷
    (ChipMissing, codes "ChipMissing") ∷
    (AttrValue, codes "AttrValue") ∷
    (DiagramLimit, codes "DiagramLimit") ∷
    (BoardLimit, codes "BoardLimit") ∷
    (ChipText, codes "ChipText") ∷
    (ChipShape, codes "ChipShape") ∷
    (ChipPinName, codes "ChipPinName") ∷
    (ChipLimit, codes "ChipLimit") ∷
    (ChipDisplay, codes "ChipDisplay") ∷
    (WasmMagic, codes "WasmMagic") ∷
    (WasmCut, codes "WasmCut") ∷
    (WasmLeb, codes "WasmLeb") ∷
    (WasmSection, codes "WasmSection") ∷
    (WasmType, codes "WasmType") ∷
    (WasmOpcode, codes "WasmOpcode") ∷
    (WasmUtf8, codes "WasmUtf8") ∷
    (WasmCount, codes "WasmCount") ∷
    (WasmLimit, codes "WasmLimit") ∷
    (ValidIndex, codes "ValidIndex") ∷
    (ValidType, codes "ValidType") ∷
    (ValidConst, codes "ValidConst") ∷
    (ValidExport, codes "ValidExport") ∷
    (ValidForm, codes "ValidForm") ∷
    (ImportUnknown, codes "ImportUnknown") ∷
    (ImportType, codes "ImportType") ∷
    (ChipInit, codes "ChipInit") ∷
    (ValidSegment, codes "ValidSegment") ∷
    (ValidLimit, codes "ValidLimit") ∷
    (ScriptLine, codes "ScriptLine") ∷
    (ScriptOrder, codes "ScriptOrder") ∷
    (ScriptLimit, codes "ScriptLimit") ∷
    (ScriptPart, codes "ScriptPart") ∷
    (WaveHead, codes "WaveHead") ∷
    (WaveLine, codes "WaveLine") ∷
    (WaveTime, codes "WaveTime") ∷
    (WaveName, codes "WaveName") ∷
    (WaveEnd, codes "WaveEnd") ∷
    (TwinDiffers, codes "TwinDiffers") ∷
    (WaveVar, codes "WaveVar") ∷ []

-- refusals of requests to a live board
abbrev pub requests : List (ℕ × List ℕ)
requests =
    (RequestUnknown, codes "RequestUnknown") ∷
    (RequestWords, codes "RequestWords") ∷
    (RequestNumber, codes "RequestNumber") ∷
    (RequestPin, codes "RequestPin") ∷
    (RequestPart, codes "RequestPart") ∷
    (RequestValue, codes "RequestValue") ∷
    (RequestPast, codes "RequestPast") ∷
    (RequestLong, codes "RequestLong") ∷
    (RequestWave, codes "RequestWave") ∷ []

abbrev pub name_in : ℕ → List (ℕ × List ℕ) → List ℕ
name_in number [] = []
name_in number (x ∷ xs) = if x.0 == number then x.1 else name_in number xs

-- the name of a refusal's number, empty where there is no such number
abbrev pub name_of : ℕ → List ℕ
name_of number = if nat_lt number 100 then name_in number files else name_in number requests
