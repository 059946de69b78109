mod WorkedHours
